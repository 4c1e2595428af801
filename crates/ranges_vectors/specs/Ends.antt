-- The numbers of a range with the smallest and with the largest size, which the code takes.
use Rattle.std.specs.Prelude.{cond, List, ℕ, ◌+◌, ◌≤◌, ◌<◌, ℤ, pos, nat_abs, ltb, length}
use Rattle.std.specs.Int.Signed.{lt_z}
use Rattle.math.specs.lists.Table.{table}
use Rattle.spec_leaves.specs.Zq.{half_Q}
use Rattle.spec_protocol.specs.Ranges.{number_at}

-- a number that is some value's centre
abbrev pub Centred : ℤ → Type 0
Centred x = nat_abs x ≤ half_Q

-- all pairs are of centred numbers
pub record AllCentred (lows highs : List ℤ) : Type 0 where
  pub low : (j : ℕ) → j < length lows → Centred (number_at lows j)
  pub high : (j : ℕ) → j < length lows → Centred (number_at highs j)

-- the number of a range that is nearest to zero
abbrev pub nearest : ℤ → ℤ → ℤ
nearest low high = cond (lt_z (pos 0) low) low (cond (lt_z high (pos 0)) high (pos 0))

-- the number of a range that is farthest from zero
abbrev pub farthest : ℤ → ℤ → ℤ
farthest low high = cond (ltb (nat_abs low) (nat_abs high)) high low

-- the numbers that a rule picks from the ranges of a run
unfoldable pub picked : (ℤ → ℤ → ℤ) → (lows highs : List ℤ) → (from count : ℕ) → List ℤ
picked pick lows highs from count = table count (λ j. pick (number_at lows (from + j)) (number_at highs (from + j)))
