use mathlib.Core.Path.{◌≡◌, ◌∙◌, ap}
use mathlib.Core.List.{List}
use Prim.Native.Nat.{ℕ, ◌≤◌, ◌<◌, ◌^◌}
use native.Mathlib.Omega.{arith}
use borrow.Author.Rules.{rules}
use lib.ListN.{length, get_or}
use mir.Val.{Fits}
use mir.Syntax.{w32}
use Rattle.spec_leaves.specs.Rq.{coeff}
use Rattle.ring_rq_product.specs.Product.{AllWords, reversed}
use Rattle.ring_rq_product.proofs.Coefficient.{length-reversed, reversed-words}
use Rattle.ring_inner_product.proofs.Totals.{totals_none, totals_dot}
use Rattle.ring_digit_products.proofs.Step.{factors, totals_more}
use Rattle.ring_digit_products.proofs.products.inner_product.Goals as goal

-- the reversed words of an element
reversed-fit : (b x : List ℕ) → x ≡ reversed b → ((i : ℕ) → i < 64 → coeff b i < 2 ^ 32) → (length x ≡ 64) × AllWords x
reversed-fit b x e words = (ap length e ∙ length-reversed b, rw e (reversed-words b words))

pub complement-start-requires : goal.complement-start-requires
complement-start-requires c =
    let b = c.load.result.coeffs in
    let f = reversed-fit b c.reverse-x.result c.reverse-x.ensures (λ i l. let w : Fits w32 (get_or b i 0) = search rules in omega arith) in
    (f.0, f.1, omega arith)

pub add_products-next-requires : goal.add_products-next-requires
add_products-next-requires c =
    let l = c.loop-m in
    let s = c.args in
    let p = c.requires in
    let b = c.load.result.coeffs in
    let f = reversed-fit b c.reverse-x.result c.reverse-x.ensures (λ i l. let w : Fits w32 (get_or b i 0) = search rules in omega arith) in
    let h : s.half ≤ 32768 = omega arith in (
      factors s.v.now s.forms.now s.half s.n l.m p.2.formed (p.2.small h) h (omega arith) _ _ f.1 f.0 c.complement-start.ensures.1,
      λ k q. omega (arith, l.invariant.1.bound k q, p.2.few),
    )

pub loop-m-preserved : goal.loop-m-preserved
loop-m-preserved c =
    let l = c.loop-m in
    let s = c.args in
    let p = c.requires in
    let b = c.load.result.coeffs in
    let x = c.reverse-x.result in
    let f = reversed-fit b x c.reverse-x.ensures (λ i l. let w : Fits w32 (get_or b i 0) = search rules in omega arith) in
    let start = c.complement-start.ensures in
    let h : s.half ≤ 32768 = omega arith in
    let fx = factors s.v.now s.forms.now s.half s.n l.m p.2.formed (p.2.small h) h (omega arith) x _ f.1 f.0 (rw start.0 at start.1) in
    let next = rw start.0 at c.add_products-next.ensures in (
      omega arith,
      totals_more s.v.now s.forms.now s.half s.n l.m p.2.formed (p.2.small h) h (omega arith) s.matrix.now s.at b x l.totals
          _ c.load.ensures c.reverse-x.ensures fx next l.invariant.1,
    )

pub returns-then-half-gt-LARGEST : goal.returns-then-half-gt-LARGEST
returns-then-half-gt-LARGEST c = c.inner_product.ensures

pub returns : goal.returns
returns c =
    let s = c.args in
    let l = c.loop-m in
    let n : l.m ≡ s.n = omega arith in
    c.reduce.ensures ∙ totals_dot (2 ^ 55) s.matrix.now s.at 64 s.v.now 0 64 s.n l.totals (rw n at l.invariant.1)

pub inner_product-requires : goal.inner_product-requires
inner_product-requires c = (c.requires.0, c.requires.1)

pub loop-m-init : goal.loop-m-init
loop-m-init c = (omega arith, totals_none _ _)

pub overflow_add-at : goal.overflow_add-at
overflow_add-at c = omega (arith, c.requires.0.within c.loop-m.m (omega arith))

pub load-requires : goal.load-requires
load-requires c = omega (arith, c.requires.0.within c.loop-m.m (omega arith))
