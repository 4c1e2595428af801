-- What the places of a row take of an element, summed in u64 and reduced once at the end.
use Rattle.std.specs.Prelude.{◌≡◌, List, ℕ, ◌+◌, ◌%◌, ◌≤◌, ◌<◌, ◌^◌, length, get_or}
use Rattle.math.specs.lists.Sum.{Σ}
use Rattle.spec_leaves.specs.Zq.{Q}
use Rattle.ring_challenge_products.specs.Powers.{entry}

-- 448 entries, each at most 2^33
pub record Entries (e : List ℕ) : Type 0 where
  pub count : length e ≡ 448
  pub small : (m : ℕ) → m < 448 → get_or e m 0 ≤ 2 ^ 33

-- the entries that the places of an element's terms lead to, equal modulo Q
pub record Extension (e a : List ℕ) : Type 0 where
  pub entries : Entries e
  pub value : (m : ℕ) → m < 448 → get_or e m 0 % Q ≡ entry a m % Q

-- a row of 42 places from a place on
pub record Row (powers : List ℕ) (at : ℕ) : Type 0 where
  pub within : at + 42 ≤ length powers
  pub below : (t : ℕ) → t < 42 → get_or powers (at + t) 0 ≤ 384

-- the entries from n places of a row on, at coefficient k, summed
abbrev pub row_sum : (powers : List ℕ) (at : ℕ) (e : List ℕ) (n k : ℕ) → ℕ
row_sum powers at e n k = Σ n (λ t. get_or e (get_or powers (at + t) 0 + k) 0)

-- the entries from seven places on, at coefficient k, summed
abbrev pub seven_sum : (e : List ℕ) (a b c d p q s k : ℕ) → ℕ
seven_sum e a b c d p q s k =
    get_or e (a + k) 0 + get_or e (b + k) 0 + get_or e (c + k) 0 + get_or e (d + k) 0 + get_or e (p + k) 0 + get_or e (q + k) 0 + get_or e (s + k) 0

-- 64 sums, each of which has grown by a number
pub record Grown (sums result : List ℕ) (f : ℕ → ℕ) : Type 0 where
  pub count : length result ≡ 64
  pub each : (k : ℕ) → k < 64 → get_or result k 0 ≡ get_or sums k 0 + f k

-- 64 sums up to a number
pub record UpTo (most : ℕ) (sums : List ℕ) : Type 0 where
  pub count : length sums ≡ 64
  pub each : (k : ℕ) → k < 64 → get_or sums k 0 ≤ most
