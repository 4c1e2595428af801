-- Division by b with its reciprocal: the product with (2^32 − 1) / b, divided by 2^32, is the quotient or one less.
use Rattle.std.proofs.Common.{◌≡◌, ℕ, ◌+◌, ◌*◌, ◌/◌, ◌%◌, ◌^◌, ◌<◌, ◌≤◌, ap, mul-le-mul_right, div-lt_iff_lt-mul, mul-le-mul, mul-le-mul_left, div-add-mod', div-mul-le_self, arith}
use native.Mathlib.Nat.{lt-div-mul-add, div-eq_of_lt-le}

-- the reciprocal of 2 is the greatest
pub reciprocal_le : (b : ℕ) → 1 < b → 4294967295 / b ≤ 2147483647
reciprocal_le b h = omega (arith, (div-lt_iff_lt-mul {k = b} {x = 4294967295} {y = 2147483648} (omega arith)).1 (omega arith))

-- a number x below 2^32 and the reciprocal m of b
module _ (x b m : ℕ) (h : x < 2 ^ 32) (p : 1 < b) (e : m ≡ 4294967295 / b) where
  -- their product fits a u64
  pub product_fits : x * m ≤ 4294967295 * 2147483647
  product_fits =
      let most : x ≤ 4294967295 = omega arith in
      let least : m ≤ 2147483647 = omega (arith, reciprocal_le b p) in
      mul-le-mul most least

  -- it gives at most the quotient, and at most one less
  pub near_quotient : (q : ℕ) → q ≡ x * m / 4294967296 → (q * b ≤ x) × (x < q * b + 2 * b)
  near_quotient q s =
      let most : m * b ≤ 4294967295 = rw e (div-mul-le_self 4294967295 b) in
      let least : 4294967295 < m * b + b = rw e (lt-div-mul-add (omega arith)) in
      let low : q * 4294967296 ≤ x * m = omega arith in
      let high : x * m + 1 ≤ q * 4294967296 + 4294967296 = omega arith in
      let f : x * b ≤ 4294967296 * b = mul-le-mul_right b (omega arith) in (
        below (x * m * b) (q * b) (omega (arith, mul-le-mul_right b low)) (omega (arith, mul-le-mul_left x most)),
        above (x * m * b) (q * b) (x * b) (omega (arith, mul-le-mul_left x least)) (omega (arith, mul-le-mul_right b high)) f,
      )
    where
      below : (product whole : ℕ) → whole * 4294967296 ≤ product → product ≤ x * 4294967296 → whole ≤ x
      below product whole low most = omega arith

      above : (product whole rest : ℕ) → x * 4294967296 ≤ product + rest → product + b ≤ whole * 4294967296 + 4294967296 * b → rest ≤ 4294967296 * b
          → x < whole + 2 * b
      above product whole rest least high f = omega arith

-- a quotient and a rest below the divisor are those of the division
pub quotient_is : (x b q r : ℕ) → x ≡ q * b + r → r < b → (q ≡ x / b) × (r ≡ x % b)
quotient_is x b q r e h =
    let same : x / b ≡ q = div-eq_of_lt-le {k = q} b (omega arith) (omega arith) in
    (omega arith, omega (arith, div-add-mod' x b, ap (λ n. n * b) same))
