-- The sizes that go on as an element's digits are taken row by row, and the rows that they give.
use mathlib.Core.Path.{◌≡◌, sym, ◌∙◌, ap}
use mathlib.Core.Bool.{true}
use mathlib.Core.List.{List}
use Prim.Native.Nat.{ℕ, ◌+◌, ◌-◌, ◌≤◌, ◌<◌}
use native.Mathlib.Numerals.{add-one}
use native.Mathlib.Decide.{ℕ_discrete}
use native.Mathlib.Omega.{arith}
use Rattle.math.specs.lists.Table.{table}
use Rattle.math.proofs.lists.Table.{length-table, table_ext, get_or-table}
use Rattle.spec_leaves.specs.Zq.{size}
use Rattle.spec_leaves.specs.Digits.{next_size, size_after, digit, leftover}
use Rattle.spec_leaves.specs.Rq.{coeff, rzero, is_zero, digit_row, left_row}
use Rattle.spec_leaves.proofs.Cases.{no_both}
use Rattle.spec_leaves.proofs.IsZero.{all_zero, not_zero}
use Rattle.spec_leaves.proofs.Digits.{stays_zero, digit_zero}
use Rattle.ring_rq_digits.specs.Digits.{digit_of}

-- the sizes after k digits
unfoldable pub sizes_after : ℕ → List ℕ → ℕ → List ℕ
sizes_after b a k = table 64 (λ j. size_after b k (size (coeff a j)))

-- before the first digit
pub sizes_first : (b : ℕ) (a sizes : List ℕ) → sizes ≡ table 64 (λ j. size (coeff a j)) → sizes ≡ sizes_after b a 0
unfolding sizes_after size_after
sizes_first b a sizes e = e

-- after one more digit
pub sizes_next : (b : ℕ) (a sizes next : List ℕ) (k : ℕ) → sizes ≡ sizes_after b a k → next ≡ table 64 (λ j. next_size b (coeff sizes j))
    → next ≡ sizes_after b a (k + 1)
unfolding sizes_after size_after
sizes_next b a sizes next k e n =
    n ∙ rw (e, add-one k) (table_ext 64 _ _ (λ j h. ap (next_size b) (get_or-table 64 (λ j. size_after b k (size (coeff a j))) j 0 h)))

-- the digits that the sizes after k digits give are row k
pub row_is : (b : ℕ) (a sizes row : List ℕ) (k : ℕ) → sizes ≡ sizes_after b a k → row ≡ table 64 (λ j. digit_of b (coeff a j) (coeff sizes j))
    → row ≡ digit_row b a k
unfolding sizes_after digit_of digit digit_row
row_is b a sizes row k e r =
    r ∙ rw e (table_ext 64 _ _ (λ j h. ap (digit_of b (coeff a j)) (get_or-table 64 (λ j. size_after b k (size (coeff a j))) j 0 h)))

-- the sizes after the last digit are those left over
pub sizes_left : (b parts k : ℕ) (a sizes : List ℕ) → k ≡ parts → sizes ≡ sizes_after b a k → sizes ≡ left_row b parts a
unfolding sizes_after left_row leftover
sizes_left b parts k a sizes n e = e ∙ ap (λ k. table 64 (λ j. size_after b k (size (coeff a j)))) n

-- each of 64 words that are all zero
zero_at : (a : List ℕ) → is_zero a ≡ true → (j : ℕ) → j < 64 → coeff a j ≡ 0
zero_at a e j h = go (ℕ_discrete (coeff a j) 0)
  where
    go : Dec (coeff a j ≡ 0) → coeff a j ≡ 0
    go (yes z) = z
    go (no n) = absurd (no_both e (not_zero a j h n))

-- where the sizes after k digits are all zero
module _ (b : ℕ) (a sizes : List ℕ) (k : ℕ) (e : sizes ≡ sizes_after b a k) (z : is_zero sizes ≡ true) where
  -- so is each size after more digits
  after_zero : (q j : ℕ) → k ≤ q → j < 64 → size_after b q (size (coeff a j)) ≡ 0
  unfolding sizes_after
  after_zero q j l h =
      let s = size (coeff a j) in
      let here : size_after b k s ≡ 0 = sym (ap (λ w. coeff w j) e ∙ get_or-table 64 (λ j. size_after b k (size (coeff a j))) j 0 h) ∙ zero_at sizes z j h in
      let more : k + (q - k) ≡ q = omega arith in
      ap (λ n. size_after b n s) (sym more) ∙ stays_zero b k (q - k) s here

  -- each later row of digits is zero
  pub rows_zero : (q : ℕ) → k ≤ q → digit_row b a q ≡ rzero
  unfolding digit_row rzero
  rows_zero q l = table_ext 64 (λ j. digit b (coeff a j) q) (λ j. 0) (λ j h. digit_zero b (coeff a j) q (after_zero q j l h))

  -- nothing is left over after that many parts or more
  pub left_zero : (parts : ℕ) → k ≤ parts → is_zero (left_row b parts a) ≡ true
  unfolding left_row leftover
  left_zero parts l =
      all_zero (table 64 (λ j. size_after b parts (size (coeff a j)))) (length-table 64 (λ j. size_after b parts (size (coeff a j))))
      (λ j h. get_or-table 64 (λ j. size_after b parts (size (coeff a j))) j 0 h ∙ after_zero parts j l h)
