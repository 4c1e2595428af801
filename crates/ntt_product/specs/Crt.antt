-- CRT: a number below the product of the primes 134217089, 134215681 and 134215553, from its remainders, modulo Q.
use Rattle.std.specs.Prelude.{List, ℕ, ◌+◌, ◌-◌, ◌*◌, ◌%◌, ◌<◌, get_or}
use Rattle.math.specs.lists.Table.{table}
use Rattle.spec_leaves.specs.Zq.{Q}

-- the second digit: 36508953 is the inverse of the first prime modulo the second
abbrev pub middle_of : ℕ → ℕ → ℕ
middle_of first second = (second + 268431362 - first) * 36508953 % 134215681

-- the third digit: 32067747 is the inverse of the product of the first two primes modulo the third, and 133166994 that of the second
abbrev pub top_of : ℕ → ℕ → ℕ → ℕ
top_of first middle third = ((third + 268431106 - first) * 32067747 + (268431106 - middle) * 133166994) % 134215553

-- the product of the first two primes modulo Q
abbrev pub pair_Q : ℕ
pair_Q = 18014038001972609 % Q

-- the number modulo Q
unfoldable pub crt_of : ℕ → ℕ → ℕ → ℕ
crt_of first second third = (first + 134217089 * middle_of first second + pair_Q * top_of first (middle_of first second) third) % Q

-- entry by entry
unfoldable pub crt_all_of : List ℕ → List ℕ → List ℕ → List ℕ
crt_all_of a b c = table 64 (λ k. crt_of (get_or a k 0) (get_or b k 0) (get_or c k 0))

-- entries that are remainders by the three primes
pub record Remainders (a b c : List ℕ) : Type 0 where
  pub first : (k : ℕ) → k < 64 → get_or a k 0 < 134217089
  pub second : (k : ℕ) → k < 64 → get_or b k 0 < 134215681
  pub third : (k : ℕ) → k < 64 → get_or c k 0 < 134215553
