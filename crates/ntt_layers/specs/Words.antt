-- Entry by entry: words folded, sums reduced, and remainders of a multiple.
use Rattle.std.specs.Prelude.{List, ℕ, ◌+◌, ◌*◌, ◌/◌, ◌%◌, ◌≤◌, ◌<◌, get_or}
use Rattle.math.specs.lists.Table.{table}
use Rattle.ntt_layers.specs.Fold.{prime, fold, reduced}

-- each of 64 entries is below three times the prime
abbrev pub Small : List ℕ → Type 0
Small x = (k : ℕ) → k < 64 → get_or x k 0 ≤ 285600000

-- each word folded
unfoldable pub folded_of : ℕ → List ℕ → List ℕ
folded_of d x = table 64 (λ k. fold d (get_or x k 0))

-- a sum reduced: 2^32 is 32·d modulo the prime
unfoldable pub reduced_sum : ℕ → ℕ → ℕ
reduced_sum d s = reduced d (s / 4294967296 * (32 * d) + s % 4294967296)

-- each sum reduced
unfoldable pub reduced_of : ℕ → List ℕ → List ℕ
reduced_of d s = table 64 (λ k. reduced_sum d (get_or s k 0))

-- the remainder of each entry times a factor, plus an offset
unfoldable pub remainders_of : ℕ → ℕ → ℕ → List ℕ → List ℕ
remainders_of d factor offset x = table 64 (λ k. (get_or x k 0 * factor + offset) % prime d)
