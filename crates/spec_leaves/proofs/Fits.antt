-- Products and sums of words that fit a wider word.
use Prim.Native.Nat.{ℕ, ◌≤◌, ◌<◌, ◌*◌, ◌^◌}
use native.Mathlib.Nat.{mul-le-mul}
use native.Mathlib.Omega.{arith}

-- the product of two words of 32 bits is at most (2^32 − 1)²
pub product_max : {a b : ℕ} → a < 2 ^ 32 → b < 2 ^ 32 → a * b ≤ 18446744065119617025
product_max {a} {b} ha hb =
    let ha' : a ≤ 4294967295 = omega arith in
    let hb' : b ≤ 4294967295 = omega arith in
    mul-le-mul ha' hb'
