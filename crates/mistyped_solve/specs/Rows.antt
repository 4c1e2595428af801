-- The rows of check 22 at one index of b0: psi[k][i]·x is to be what row k lacks.
use Rattle.std.specs.Prelude.{◌≡◌, List, ℕ, ◌+◌, ◌*◌, ◌%◌, ◌<◌, get_or}
use Rattle.spec_leaves.specs.Zq.{Q}

-- x gives each of n rows what it lacks; the weight of row k stands at a place and k rows' widths
abbrev pub Supplies : (R : List ℕ) (at width : ℕ) (lacking : List ℕ) (n x : ℕ) → Type 0
Supplies R at width lacking n x = (k : ℕ) → k < n → (get_or R (at + k * width) 0 * x) % Q ≡ get_or lacking k 0
