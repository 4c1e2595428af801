-- What is nearest to zero in each range is a choice with the smallest norm, and what is farthest one with the largest.
use mathlib.Core.Path.{◌≡◌, refl, ap, subst, ◌∙◌}
use mathlib.Core.List.{List}
use Prim.Native.Nat.{ℕ, ◌+◌, ◌≤◌, ◌<◌}
use native.Mathlib.Nat.{mul-le-mul}
use native.Mathlib.Omega.{arith}
use lib.IntN.{ℤ, pos, nat_abs}
use lib.Signed.{◌≤ℤ◌}
use lib.ListN.{length}
use Rattle.math.specs.lists.Table.{table}
use Rattle.math.specs.lists.Part.{part}
use Rattle.math.specs.lists.Sum.{Σ}
use Rattle.math.proofs.lists.Sum.{Σ-le}
use Rattle.math.proofs.lists.Table.{length-table, get_or-table, table_ext}
use Rattle.math.proofs.lists.Splice.{length_part, get_d_part}
use Rattle.spec_protocol.specs.Ranges.{number_at, square, norm, Choice, SmallestNorm, LargestNorm}
use Rattle.ranges_vectors.specs.Ends.{nearest, farthest, picked}
use Rattle.ranges_vectors.proofs.Ends.{nearest-least, farthest-most, nearest-from_low, nearest-to_high, farthest-from_low, farthest-to_high}
use Rattle.ranges_vectors.proofs.Picked.{norm-table}

-- each range has a low that is at most its high
abbrev pub Ordered : (lows highs : List ℤ) → Type 0
Ordered lows highs = (j : ℕ) → j < length lows → number_at lows j ≤ℤ number_at highs j

-- a number from each range by a rule
abbrev each : (ℤ → ℤ → ℤ) → (lows highs : List ℤ) → List ℤ
each pick lows highs = table (length lows) (λ j. pick (number_at lows j) (number_at highs j))

-- squares rise with sizes
square_le : (x y : ℤ) → nat_abs x ≤ nat_abs y → square x ≤ square y
square_le x y h = mul-le-mul h h

module _ (lows highs : List ℤ) (ordered : Ordered lows highs) where
  -- numbers picked within their ranges are a choice
  is_choice : (pick : ℤ → ℤ → ℤ) → ((l h : ℤ) → l ≤ℤ h → l ≤ℤ pick l h) → ((l h : ℤ) → l ≤ℤ h → pick l h ≤ℤ h) → Choice lows highs (each pick lows highs)
  is_choice pick from to = record {
    count = length-table (length lows) _;
    from_low = λ j h. rw (get_or-table (length lows) (λ j. pick (number_at lows j) (number_at highs j)) j (pos 0) h) (from (number_at lows j) (number_at highs j) (ordered j h));
    to_high = λ j h. rw (get_or-table (length lows) (λ j. pick (number_at lows j) (number_at highs j)) j (pos 0) h) (to (number_at lows j) (number_at highs j) (ordered j h));
  }

  -- the norm of a choice, number by number
  norm-choice : (xs : List ℤ) → Choice lows highs xs → norm xs ≡ Σ (length lows) (λ j. square (number_at xs j))
  unfolding norm
  norm-choice xs c = ap (λ n. Σ n (λ j. square (number_at xs j))) c.count

  pub smallest : SmallestNorm lows highs (norm (each nearest lows highs))
  smallest = record {
    choice = each nearest lows highs;
    chosen = is_choice nearest nearest-from_low nearest-to_high;
    attained = refl;
    none_smaller = least;
  }
    where
      least : (xs : List ℤ) → Choice lows highs xs → norm (each nearest lows highs) ≤ norm xs
      least xs c =
          rw (norm-table (length lows) (λ j. nearest (number_at lows j) (number_at highs j)), norm-choice xs c)
          (Σ-le (length lows) (λ j. square (nearest (number_at lows j) (number_at highs j))) (λ j. square (number_at xs j))
          (λ j h. square_le (nearest (number_at lows j) (number_at highs j)) (number_at xs j)
          (nearest-least (number_at lows j) (number_at highs j) (number_at xs j) (c.from_low j h) (c.to_high j h))))

  pub largest : LargestNorm lows highs (norm (each farthest lows highs))
  largest = record {
    choice = each farthest lows highs;
    chosen = is_choice farthest farthest-from_low farthest-to_high;
    attained = refl;
    none_larger = most;
  }
    where
      most : (xs : List ℤ) → Choice lows highs xs → norm xs ≤ norm (each farthest lows highs)
      most xs c =
          rw (norm-table (length lows) (λ j. farthest (number_at lows j) (number_at highs j)), norm-choice xs c)
          (Σ-le (length lows) (λ j. square (number_at xs j)) (λ j. square (farthest (number_at lows j) (number_at highs j)))
          (λ j h. square_le (number_at xs j) (farthest (number_at lows j) (number_at highs j))
          (farthest-most (number_at lows j) (number_at highs j) (number_at xs j) (c.from_low j h) (c.to_high j h))))

-- the ranges of a run
module _ (lows highs : List ℤ) (from count : ℕ) (low_fits : from + count ≤ length lows) (high_fits : from + count ≤ length highs) (ordered : Ordered lows highs) where
  -- are in order
  part-ordered : Ordered (part lows from count) (part highs from count)
  part-ordered j h =
      let m : j < count = subst (λ n. j < n) (length_part lows from count low_fits) h in
      rw (get_d_part (pos 0) lows from count j m, get_d_part (pos 0) highs from count j m) (ordered (from + j) (omega arith))

  -- what is picked from them
  picked-each : (pick : ℤ → ℤ → ℤ) → each pick (part lows from count) (part highs from count) ≡ picked pick lows highs from count
  unfolding picked
  picked-each pick =
      ap (λ n. table n (λ j. pick (number_at (part lows from count) j) (number_at (part highs from count) j))) (length_part lows from count low_fits)
      ∙ table_ext count (λ j. pick (number_at (part lows from count) j) (number_at (part highs from count) j)) (λ j. pick (number_at lows (from + j)) (number_at highs (from + j)))
      (λ j m. rw (get_d_part (pos 0) lows from count j m, get_d_part (pos 0) highs from count j m))

  pub run-smallest : SmallestNorm (part lows from count) (part highs from count) (norm (picked nearest lows highs from count))
  run-smallest = subst (λ xs. SmallestNorm (part lows from count) (part highs from count) (norm xs)) (picked-each nearest) (smallest (part lows from count) (part highs from count) part-ordered)

  pub run_largest : LargestNorm (part lows from count) (part highs from count) (norm (picked farthest lows highs from count))
  run_largest = subst (λ xs. LargestNorm (part lows from count) (part highs from count) (norm xs)) (picked-each farthest) (largest (part lows from count) (part highs from count) part-ordered)
