-- What owning an array of arrays tells of its rows.
use mathlib.Core.Path.{◌≡◌}
use mathlib.Core.List.{List, [], ◌∷◌}
use Prim.Native.Nat.{ℕ, zero, suc, ◌<◌}
use native.Mathlib.Nat.{not-suc-le-zero}
use native.Mathlib.Omega.{arith}
use lib.ListN.{length, get_or}
use mir.Val.{Val}
use denote.RattleType.{RattleType}
use denote.Array.{Array, each}
use denote.Shadow.{shadow}

-- each of the rows has the array type's length
pub row_long : (R : RattleType) (n : ℕ) (rows : List (List R.Denot)) (us : List Val) (i : ℕ)
    → i < length rows → shadow (each (List R.Denot) (Array R n).own_val rows us) → length (get_or rows i []) ≡ n
row_long R n [] us i h s = absurd (not-suc-le-zero h)
row_long R n (x ∷ rows) [] i h s = absurd s
row_long R n (x ∷ rows) (u ∷ us) zero h s = s.0.1.0.1
row_long R n (x ∷ rows) (u ∷ us) (suc i) h s = row_long R n rows us i (omega arith) s.1
