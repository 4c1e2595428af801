-- 64 sums of coefficients that are reduced modulo Q only at the end.
use Rattle.std.specs.Prelude.{◌≡◌, ℕ, ◌+◌, ◌%◌, ◌^◌, ◌<◌, ◌≤◌, List, slice_index}
use Rattle.spec_leaves.specs.Zq.{Q}
use Rattle.spec_leaves.specs.Rq.{coeff}

-- each sum has room for one more
abbrev pub SumsRoom : List ℕ → Type 0
SumsRoom sums = (k : ℕ) → k < 64 → slice_index sums k ≤ 2 ^ 63

-- an element added to the sums: each is the same modulo Q, and grows by so much at most
pub record Added (growth : ℕ) (sums element result : List ℕ) : Type 0 where
  pub value : (k : ℕ) → k < 64 → slice_index result k % Q ≡ (slice_index sums k + coeff element k) % Q
  pub bound : (k : ℕ) → k < 64 → slice_index result k ≤ slice_index sums k + growth
