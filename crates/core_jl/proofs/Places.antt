-- Places of rows within slices.
use Prim.Native.Nat.{ℕ, ◌+◌, ◌*◌, ◌≤◌, ◌<◌}
use native.Mathlib.Nat.{mul-le-mul_right}
use native.Mathlib.Omega.{arith}

-- the rows of vector i end before the matrices of `end` vectors do
pub matrices-within : (i end w : ℕ) → i < end → i * 256 * w + 256 * w ≤ end * 256 * w
matrices-within i end w h =
    let rows : i * 256 + 256 ≤ end * 256 = omega arith in
    omega (arith, mul-le-mul_right w rows)
