use mathlib.Core.Path.{◌≡◌, ◌∙◌, subst}
use mathlib.Core.List.{List}
use Prim.Native.Nat.{ℕ, ◌+◌}
use native.Mathlib.Omega.{arith}
use lib.ListN.{get_or, length-replicate}
use Rattle.math.specs.lists.Part.{part}
use Rattle.spec_leaves.specs.Rq.{rscale}
use Rattle.ring_rq_product.specs.Product.{growth}
use Rattle.ring_rq_product.specs.Sums.{Added}
use Rattle.ring_inner_product.proofs.Totals.{totals_none, totals_next, totals_room, totals_combination}
use Rattle.ring_inner_product.proofs.linear_combination.Goals as goal

pub add_scaled-requires : goal.add_scaled-requires
add_scaled-requires c =
    let l = c.loop-m in
    (omega arith, omega (arith, c.requires.0.within l.m (omega arith)), totals_room _ l.m _ l.invariant.2 (omega arith))

pub overflow_add-i : goal.overflow_add-i
overflow_add-i c =
    let l = c.loop-m in
    omega (arith, c.requires.0.within l.m (omega arith))

pub loop-m-preserved : goal.loop-m-preserved
loop-m-preserved c =
    let l = c.loop-m in
    let s = c.args in
    let scaled : ℕ → List ℕ = λ at. rscale (part s.x.now at 64) (get_or s.factors.now (s.at + l.m) 0) in (
      omega arith,
      omega arith,
      totals_next _ _ _ l.m _ l.invariant.2 (subst (λ at. Added growth l.totals (scaled at) c.add_scaled.new.sums) l.invariant.1 c.add_scaled.ensures.1),
      c.add_scaled.ensures.0,
    )

pub returns : goal.returns
returns c =
    let s = c.args in
    let l = c.loop-m in
    let n : l.m ≡ s.n = omega arith in
    c.reduce.ensures ∙ totals_combination s.x.now s.x_at s.x_step s.factors.now s.at s.n l.totals (rw n at l.invariant.2)

pub loop-m-init : goal.loop-m-init
loop-m-init c = (omega arith, omega arith, totals_none _ _, length-replicate {A = ℕ} 64 0)
