-- Places in a list of rows of equal length.
use Prim.Native.Nat.{ℕ, ◌+◌, ◌*◌, ◌≤◌, ◌<◌}
use native.Mathlib.Nat.{mul-le-mul_right}
use native.Mathlib.Omega.{arith}

-- row i of r rows of n ends within them
pub rows-within : (i r n : ℕ) → i < r → i * n + n ≤ r * n
rows-within i r n h = omega (arith, mul-le-mul_right n h)

-- entry j of row i lies within them
pub index_below : (r n i j : ℕ) → i < r → j < n → i * n + j < r * n
index_below r n i j h l = omega (arith, mul-le-mul_right n h)
