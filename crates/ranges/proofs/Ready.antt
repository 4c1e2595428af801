-- What holds of lows and highs that are refused nothing.
use mathlib.Core.Path.{◌≡◌, subst}
use mathlib.Core.Bool.{Bool, true, false, cond}
use mathlib.Core.List.{List}
use Prim.Native.Nat.{ℕ, ◌≤◌, ◌<◌, min}
use native.Mathlib.Decide.{dec_le, ℕ_discrete}
use lib.Dec.{T}
use lib.IntN.{ℤ, nat_abs}
use lib.Signed.{le_z, ◌≤ℤ◌, le_z_yes}
use lib.ListN.{length}
use Rattle.spec_leaves.specs.Zq.{half_Q}
use Rattle.spec_leaves.specs.Answer.{Answer, fine, refused, ◌then◌}
use Rattle.spec_protocol.specs.Ranges.{number_at, length_refusal, size_refusal, beyond_refusal, crossed_refusal}
use Rattle.spec_protocol.proofs.Fine.{required, refused_not-fine, then_fine_left, then_fine_right}
use Rattle.spec_protocol.proofs.First.{first-each}
use Rattle.ranges_vectors.specs.Ends.{AllCentred}
use Rattle.ranges_vectors.proofs.Choices.{Ordered}
use Rattle.ranges.specs.Answers.{lists_refusal}

-- as many lows and highs as are needed, all centred and in order
pub record Ready (count : ℕ) (lows highs : List ℤ) : Type 0 where
  pub lows_count : length lows ≡ count
  pub highs_count : length highs ≡ count
  pub centred : AllCentred lows highs
  pub ordered : Ordered lows highs

-- a length that is not refused
pub length_is : (need handed : ℕ) → length_refusal need handed ≡ fine → handed ≡ need
length_is need handed e = required (ℕ_discrete handed need) (refused 11 (min handed need)) (refused_not-fine 11 (min handed need)) e

-- a number that is not refused
size_is : (j : ℕ) (x : ℤ) → size_refusal j x ≡ fine → nat_abs x ≤ half_Q
size_is j x e = required (dec_le (nat_abs x) half_Q) (refused 37 j) (refused_not-fine 37 j) e

-- a pair that is not refused
order_is : (j : ℕ) (b : Bool) → cond b fine (refused 36 j) ≡ fine → T b
order_is j true e = tt
order_is j false e = absurd (refused_not-fine 36 j e)

module _ (count : ℕ) (lows highs : List ℤ) (e : lists_refusal count lows highs ≡ fine) where
  abbrev l₁ : Answer
  l₁ = length_refusal count (length lows)

  abbrev l₂ : Answer
  l₂ = length_refusal count (length highs)

  abbrev b : Answer
  b = beyond_refusal count lows highs

  abbrev o : Answer
  o = crossed_refusal count lows highs

  lengths : l₁ then l₂ then b ≡ fine
  lengths = then_fine_left (l₁ then l₂ then b) o e

  pair : (j : ℕ) → j < length lows → size_refusal j (number_at lows j) then size_refusal j (number_at highs j) ≡ fine
  unfolding beyond_refusal
  pair j h =
      first-each count (λ j. size_refusal j (number_at lows j) then size_refusal j (number_at highs j)) (then_fine_right (l₁ then l₂) b lengths) j
      (subst (λ n. j < n) (length_is count (length lows) (then_fine_left l₁ l₂ (then_fine_left (l₁ then l₂) b lengths))) h)

  ordered-pair : (j : ℕ) → j < length lows → number_at lows j ≤ℤ number_at highs j
  unfolding crossed_refusal
  ordered-pair j h =
      le_z_yes (order_is j (le_z (number_at lows j) (number_at highs j))
      (first-each count (λ j. cond (le_z (number_at lows j) (number_at highs j)) fine (refused 36 j)) (then_fine_right (l₁ then l₂ then b) o e) j
      (subst (λ n. j < n) (length_is count (length lows) (then_fine_left l₁ l₂ (then_fine_left (l₁ then l₂) b lengths))) h)))

  pub ready : Ready count lows highs
  ready = record {
    lows_count = length_is count (length lows) (then_fine_left l₁ l₂ (then_fine_left (l₁ then l₂) b lengths));
    highs_count = length_is count (length highs) (then_fine_right l₁ l₂ (then_fine_left (l₁ then l₂) b lengths));
    centred = record {
      low = λ j h. size_is j (number_at lows j) (then_fine_left (size_refusal j (number_at lows j)) (size_refusal j (number_at highs j)) (pair j h));
      high = λ j h. size_is j (number_at highs j) (then_fine_right (size_refusal j (number_at lows j)) (size_refusal j (number_at highs j)) (pair j h));
    };
    ordered = ordered-pair;
  }
