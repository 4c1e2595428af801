-- Sums of 64 products of words with small numbers, which fit a u64 as they are.
use Rattle.std.specs.Prelude.{◌≡◌, List, ℕ, ◌+◌, ◌-◌, ◌*◌, ◌/◌, ◌≤◌, ◌<◌, ◌^◌, length, get_or}
use Rattle.math.specs.lists.Sum.{Σ}
use Rattle.spec_leaves.specs.Zq.{Q, top_Q}
use Rattle.ring_rq_product.specs.Product.{AllWords}

-- the sum of the products of x's 64 entries with y's from a place on
abbrev pub products_sum : List ℕ → List ℕ → ℕ → ℕ
products_sum x y at = Σ 64 (λ i. get_or x i 0 * get_or y (at + i) 0)

-- a multiple of Q that no word is above
abbrev pub times_Q : ℕ
times_Q = (4294967295 + top_Q) / Q

abbrev pub lift_q : ℕ
lift_q = Q * times_Q

-- what x's entries lack of it, summed, times half the base
abbrev pub complement : List ℕ → ℕ → ℕ
complement x half = half * Σ 64 (λ i. lift_q - get_or x i 0)

-- so many numbers from a place on are at most 2^16
abbrev pub SmallFrom : List ℕ → (at n : ℕ) → Type 0
SmallFrom y at n = (j : ℕ) → j < n → get_or y (at + j) 0 ≤ 2 ^ 16

-- 64 words, so many small numbers from a place on, and a number that the sums start from
pub record Factors (x y : List ℕ) (at n start : ℕ) : Type 0 where
  pub words : AllWords x
  pub count : length x ≡ 64
  pub within : at + n ≤ length y
  pub small : SmallFrom y at n
  pub first : start ≤ 2 ^ 54
