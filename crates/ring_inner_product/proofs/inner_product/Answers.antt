use mathlib.Core.Path.{◌≡◌, ◌∙◌, ap, ap₂, subst}
use native.Mathlib.Omega.{arith}
use Rattle.math.specs.lists.Part.{part}
use Rattle.spec_leaves.specs.Rq.{rmul}
use Rattle.ring_rq_product.specs.Product.{growth}
use Rattle.ring_rq_product.specs.Sums.{Added}
use Rattle.ring_inner_product.proofs.Totals.{totals_none, totals_next, totals_room, totals_dot}
use Rattle.ring_inner_product.proofs.inner_product.Goals as goal

pub load-requires : goal.load-requires
load-requires c =
    let l = c.loop-m in
    omega (arith, c.requires.0.within l.m (omega arith))

pub load-requires-in-loop-m : goal.load-requires-in-loop-m
load-requires-in-loop-m c =
    let l = c.loop-m in
    omega (arith, c.requires.1.within l.m (omega arith))

pub add_product-next-requires : goal.add_product-next-requires
add_product-next-requires c =
    let l = c.loop-m in
    totals_room _ l.m _ l.invariant.3 (omega arith)

pub overflow_add-i : goal.overflow_add-i
overflow_add-i c =
    let l = c.loop-m in
    omega (arith, c.requires.0.within l.m (omega arith))

pub overflow_add-j : goal.overflow_add-j
overflow_add-j c =
    let l = c.loop-m in
    omega (arith, c.requires.1.within l.m (omega arith))

pub loop-m-preserved : goal.loop-m-preserved
loop-m-preserved c =
    let l = c.loop-m in
    let s = c.args in
    let a = c.load.ensures ∙ ap (λ at. part s.x.now at 64) l.invariant.1 in
    let b = c.load-in-loop-m.ensures ∙ ap (λ at. part s.y.now at 64) l.invariant.2 in
    (omega arith, omega arith, omega arith, totals_next _ _ _ l.m _ l.invariant.3 (subst (λ e. Added growth l.totals e c.add_product-next.result) (ap₂ rmul a b) c.add_product-next.ensures))

pub returns : goal.returns
returns c =
    let s = c.args in
    let l = c.loop-m in
    let n : l.m ≡ s.n = omega arith in
    c.reduce.ensures ∙ totals_dot growth s.x.now s.x_at s.x_step s.y.now s.y_at s.y_step s.n l.totals (rw n at l.invariant.3)

pub loop-m-init : goal.loop-m-init
loop-m-init c = (omega arith, omega arith, omega arith, totals_none _ _)
