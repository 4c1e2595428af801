-- A word as an i64, and a word less Q.
use Rattle.std.proofs.Common.{◌≡◌, ℕ, suc, ◌-◌, ◌^◌, ◌<◌, Bool, true, false, cond, ltb, pos, negsuc, ◌-ℤ◌, arith, w64, SFits, to_z}
use Rattle.spec_leaves.specs.Zq.{Q}
use mir.ValLaws.{to_z_pos}

-- a word is the same number as an i64
pub to_Z_word : (a : ℕ) → a < 2 ^ 32 → to_z w64 a ≡ pos a
to_Z_word a h = let h' : a < 2 ^ 63 = omega arith in to_z_pos w64 a h'

-- a word less Q fits an i64
pub less_fits : (a : ℕ) → a < 2 ^ 32 → SFits w64 (pos a -ℤ pos Q)
less_fits a h = by (ltb a Q)
  where
    by : (b : Bool) → SFits w64 (cond b (negsuc (Q - suc a)) (pos (a - Q)))
    by true = record { sfits = omega arith }
    by false = record { sfits = omega arith }
