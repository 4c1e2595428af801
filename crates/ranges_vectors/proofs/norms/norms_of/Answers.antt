use mathlib.Core.Path.{◌≡◌, refl, sym, ◌∙◌, ap, ap₂}
use Prim.Native.Nat.{ℕ, ◌+◌}
use native.Mathlib.Omega.{arith}
use mathlib.Core.List.{List}
use lib.IntN.{ℤ}
use mir.Syntax.{w64}
use mir.Val.{to_z, of_z}
use mir.ValLaws.{to_z-of_z}
use Rattle.math.specs.lists.Sum.{Σ}
use Rattle.math.proofs.lists.Sum.{Σ-suc}
use Rattle.spec_protocol.specs.Ranges.{number_at, square, norm}
use Rattle.ranges_vectors.specs.Ends.{nearest, farthest, picked}
use Rattle.ranges_vectors.proofs.Picked.{norm-picked}
use Rattle.ranges_vectors.proofs.norms.norms_of.Goals.{After-number-in-loop-j}
use Rattle.ranges_vectors.proofs.norms.norms_of.Goals as goal

-- the two numbers of range j
module _ (c : After-number-in-loop-j) where
  low_is : to_z w64 (of_z w64 c.number.result) ≡ number_at c.args.lows.now (c.args.at + c.loop-j.j)
  low_is = to_z-of_z w64 c.number.result c.number.ensures.1 ∙ c.number.ensures.0

  high_is : to_z w64 (of_z w64 c.number-in-loop-j.result) ≡ number_at c.args.highs.now (c.args.at + c.loop-j.j)
  high_is = to_z-of_z w64 c.number-in-loop-j.result c.number-in-loop-j.ensures.1 ∙ c.number-in-loop-j.ensures.0

-- one more square
one_more : (pick : ℤ → ℤ → ℤ) (lows highs : List ℤ) (at j before after : ℕ) {low high : ℤ}
    → after ≡ before + square (pick low high) → low ≡ number_at lows (at + j) → high ≡ number_at highs (at + j)
    → before ≡ Σ j (λ i. square (pick (number_at lows (at + i)) (number_at highs (at + i))))
    → after ≡ Σ (j + 1) (λ i. square (pick (number_at lows (at + i)) (number_at highs (at + i))))
one_more pick lows highs at j before after e l h so =
    e ∙ ap₂ ◌+◌ so (ap₂ (λ x y. square (pick x y)) l h) ∙ sym (Σ-suc j (λ i. square (pick (number_at lows (at + i)) (number_at highs (at + i)))))

-- all squares
all : (pick : ℤ → ℤ → ℤ) (lows highs : List ℤ) (at j count total : ℕ) → j ≡ count
    → total ≡ Σ j (λ i. square (pick (number_at lows (at + i)) (number_at highs (at + i)))) → total ≡ norm (picked pick lows highs at count)
all pick lows highs at j count total n e =
    e ∙ ap (λ m. Σ m (λ i. square (pick (number_at lows (at + i)) (number_at highs (at + i))))) n ∙ sym (norm-picked pick lows highs at count)

pub loop-j-init : goal.loop-j-init
unfolding Σ
loop-j-init c = (refl, omega arith, refl, omega arith)

pub add_range-total-requires : goal.add_range-total-requires
add_range-total-requires c =
    let at = c.args.at + c.loop-j.j in record {
      room = (omega arith, omega arith);
      centred = (
        rw (low_is (goal.at.add_range-total-requires c).After-number-in-loop-j) (c.requires.0.low at (omega arith)),
        rw (high_is (goal.at.add_range-total-requires c).After-number-in-loop-j) (c.requires.0.high at (omega arith)),
      );
    }

pub loop-j-preserved : goal.loop-j-preserved
loop-j-preserved c =
    let s = c.args in
    let l = c.loop-j in (
      one_more nearest s.lows.now s.highs.now s.at l.j l.total.least c.add_range-total.result.least c.add_range-total.ensures.least_value.0
          (low_is (goal.at.loop-j-preserved c).After-number-in-loop-j) (high_is (goal.at.loop-j-preserved c).After-number-in-loop-j) l.invariant.0,
      omega arith,
      one_more farthest s.lows.now s.highs.now s.at l.j l.total.greatest c.add_range-total.result.greatest c.add_range-total.ensures.greatest_value.0
          (low_is (goal.at.loop-j-preserved c).After-number-in-loop-j) (high_is (goal.at.loop-j-preserved c).After-number-in-loop-j) l.invariant.2,
      omega arith,
    )

pub returns : goal.returns
returns c =
    let s = c.args in
    let l = c.loop-j in
    let n : l.j ≡ s.count = omega arith in record {
      least_value = all nearest s.lows.now s.highs.now s.at l.j s.count l.total.least n l.invariant.0;
      greatest_value = all farthest s.lows.now s.highs.now s.at l.j s.count l.total.greatest n l.invariant.2;
    }
