-- Elements in NTT form in a slice (document 02, Item 7): 192 words each, the values modulo the three primes.
use Rattle.std.specs.Prelude.{◌≡◌, ℕ, ◌+◌, ◌*◌, ◌≤◌, ◌<◌, ◌^◌, length, get_or}
use mathlib.Core.List.{List, ◌++◌, flat_map}
use Rattle.math.specs.lists.Table.{table}
use Rattle.math.specs.lists.Part.{part}
use Rattle.math.specs.lists.Sum.{Σ}
use Rattle.spec_leaves.specs.Rq.{coeff, Element}
use Rattle.spec_leaves.specs.Ring.{element}
use Rattle.ntt_product.specs.NttForm.{ntt_of, inverse_ntt_of}

-- the values of an element modulo the three primes
unfoldable pub ntt_form : List ℕ → List ℕ
ntt_form a = ntt_of 0 a ++ (ntt_of 1 a ++ ntt_of 2 a)

-- those of n elements from a place on
abbrev pub ntt_words : List ℕ → (from n : ℕ) → List ℕ
ntt_words xs from n = flat_map ntt_form (table n (λ m. part xs (from + 64 * m) 64))

-- a slice holds the NTT form of n elements of another, whose words are at most Q
pub record NttForm (slice : List ℕ) (at : ℕ) (xs : List ℕ) (from n : ℕ) : Type 0 where
  pub ntt : (i m : ℕ) → i < 3 → m < n → part slice (at + 64 * i + 192 * m) 64 ≡ ntt_of i (part xs (from + 64 * m) 64)
  pub small : (m k : ℕ) → k < 64 → coeff (part xs (from + 64 * m) 64) k ≤ 4294967295
  pub within : at + 192 * n ≤ length slice

-- there is room for the products of 64 values
abbrev pub SumsRoom : List ℕ → List ℕ → ℕ → List ℕ → ℕ → Type 0
SumsRoom sums x x-at y y-at = (k : ℕ) → k < 64 → get_or sums k 0 + get_or x (x-at + k) 0 * get_or y (y-at + k) 0 < 2 ^ 64

-- those products added
unfoldable pub values_added : List ℕ → List ℕ → ℕ → List ℕ → ℕ → List ℕ
values_added sums x x-at y y-at = table 64 (λ k. get_or sums k 0 + get_or x (x-at + k) 0 * get_or y (y-at + k) 0)

-- the sums of the products of n elements' values modulo one prime
unfoldable pub value_sums : List ℕ → ℕ → List ℕ → ℕ → ℕ → List ℕ
value_sums x x-at y y-at n = table 64 (λ k. Σ n (λ m. get_or x (x-at + 192 * m + k) 0 * get_or y (y-at + 192 * m + k) 0))

-- n elements' values modulo one prime lie in the slice, each as small as a value is
pub record Values (slice : List ℕ) (at n : ℕ) : Type 0 where
  pub within : (m : ℕ) → m < n → at + 192 * m + 64 ≤ length slice
  pub small : (m k : ℕ) → m < n → k < 64 → get_or slice (at + 192 * m + k) 0 ≤ 134285152

-- the same modulo the three primes
pub record AllValues (slice : List ℕ) (at n : ℕ) : Type 0 where
  pub within : at + 192 * n ≤ length slice
  pub small : (i m k : ℕ) → i < 3 → m < n → k < 64 → get_or slice (at + 64 * i + 192 * m + k) 0 ≤ 134285152

-- the element whose values are the sums of the products of n elements' values
unfoldable pub ntt_dot : List ℕ → ℕ → List ℕ → ℕ → ℕ → Element
ntt_dot x x-at y y-at n =
    element (inverse_ntt_of (value_sums x x-at y y-at n) (value_sums x (x-at + 64) y (y-at + 64) n) (value_sums x (x-at + 128) y (y-at + 128) n))

-- the inner product of a vector in NTT form with vector k of a slice that holds vectors of n elements so, one after the other
abbrev pub ntt_row : List ℕ → List ℕ → ℕ → ℕ → ℕ → Element
ntt_row v slice at n k = ntt_dot v 0 slice (at + 192 * (k * n)) n

-- a row of so many elements has room after the vectors in NTT form
abbrev pub RowRoom : List ℕ → (at n count to : ℕ) → Type 0
RowRoom slice at n count to = (at + 192 * (count * n) ≤ to) × (to + 64 * count ≤ length slice)
