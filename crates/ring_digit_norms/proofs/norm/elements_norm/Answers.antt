use mathlib.Core.Path.{◌≡◌, refl, sym, ◌∙◌, ap, ap₂}
use Prim.Native.Nat.{ℕ, ◌+◌}
use native.Mathlib.Omega.{arith}
use borrow.Author.Rules.{rules}
use lib.ListN.{length}
use lib.Seq.{take_all}
use Rattle.math.specs.lists.Sum.{Σ}
use Rattle.math.proofs.lists.Sum.{Σ-suc}
use Rattle.spec_leaves.specs.Norm.{norm}
use Rattle.spec_leaves.specs.Ring.{words, element}
use Rattle.spec_protocol.proofs.Norms.{norm_of-table}
use Rattle.ring_inner_product.specs.Run.{run}
use Rattle.ring_digit_norms.proofs.Squares.{norm_settled, norm_of-run}
use Rattle.ring_digit_norms.proofs.norm.elements_norm.Goals as goal

pub returns-then-this-eq-LACK : goal.returns-then-this-eq-LACK
returns-then-this-eq-LACK c =
    let s = c.args in
    (c.norm_of.ensures.0 ∙ norm_of-run s.from.now s.at s.count (omega arith) (λ i h. omega (arith, c.type_inv.from i)), omega arith)

pub loop-m-init : goal.loop-m-init
unfolding Σ
loop-m-init c = (omega arith, refl, omega arith)

pub loop-m-preserved : goal.loop-m-preserved
loop-m-preserved c =
    let s = c.args in
    let l = c.loop-m in
    let settled = c.settled in
    let a = settled.result.coeffs in
    let n : length a ≡ 64 = search rules in
    let f : ℕ → ℕ = λ k. norm (words (run s.from.now s.at 64 k)) in
    let cell : element a ≡ run s.from.now s.at 64 l.m = settled.ensures.0
    ∙ ap element c.load.ensures in (
      omega arith,
      c.add_norm-total.ensures.0
          ∙ ap₂ ◌+◌ l.invariant.1 (ap norm (take_all 64 a (omega arith)) ∙ norm_settled a n settled.ensures.1 ∙ ap (λ e. norm (words e)) cell)
          ∙ sym (Σ-suc l.m f),
      omega arith,
    )

pub returns : goal.returns
returns c =
    let s = c.args in
    let l = c.loop-m in
    let n : l.m ≡ s.count = omega arith in
    let f = run s.from.now s.at 64 in
    (l.invariant.1 ∙ ap (λ k. Σ k (λ m. norm (words (f m)))) n ∙ sym (norm_of-table s.count f), omega arith)

pub add_norm-total-requires : goal.add_norm-total-requires
add_norm-total-requires c = let n : length c.settled.result.coeffs ≡ 64 = search rules in (omega arith, omega arith)
