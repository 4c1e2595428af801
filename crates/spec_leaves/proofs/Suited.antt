-- What the laws ask of the modulus Q = 2^32 − d. `specs/Zq.antt` and `src/modulus.rt` may have any other that meets it.
use mathlib.Core.Path.{◌≡◌, refl, ap, ◌∙◌}
use Prim.Native.Nat.{ℕ, ◌+◌, ◌-◌, ◌*◌, ◌/◌, ◌%◌, ◌≤◌, ◌<◌, ◌^◌}
use native.Mathlib.Nat.{mul-le-mul}
use native.Mathlib.Omega.{arith}
use Rattle.spec_leaves.specs.Zq.{Q, lack_Q, half_Q}

-- d is odd, so that 2 has an inverse, and at most 127, so that sums of 2^18 products of elements fit a u64
pub record Suited (d : ℕ) : Type 0 where
  pub odd : d % 2 ≡ 1
  pub small : d ≤ 127

-- the modulus meets it
pub suited : Suited lack_Q
suited = record { odd = refl; small = omega arith }

-- Q is odd
pub odd_modulus : (d : ℕ) → Suited d → (4294967296 - d) % 2 ≡ 1
odd_modulus d s = omega (arith, s.odd, s.small)

-- no word is above 2·Q
pub words-below-twice : (d : ℕ) → Suited d → 4294967296 ≤ 2 * (4294967296 - d)
words-below-twice d s = omega (arith, s.small)

-- (Q − 1)/2 is at most 64 below 2^31
pub half_near : (d : ℕ) → Suited d → 2147483584 ≤ (4294967296 - d) / 2
half_near d s = omega (arith, s.small)

-- 4096·Q² is above 64 sums of 63 products of words
pub offset-above : (d : ℕ) → Suited d → 64 * (63 * 18446744065119617025) < 4096 * ((4294967296 - d) * (4294967296 - d))
offset-above d s = let least : 4294967169 ≤ 4294967296 - d = omega (arith, s.small) in omega (arith, mul-le-mul least least)

-- the inverse of 2 is (Q + 1)/2
pub half_inverse : (half_Q + 1) * 2 % Q ≡ 1
half_inverse = let whole : (half_Q + 1) * 2 ≡ Q + 1 = omega (arith, odd_modulus lack_Q suited) in ap (λ x. x % Q) whole ∙ omega arith

-- the halves of a number below 2^64, the upper one times d, come to 2^39 at most
pub halves_fit : (d p : ℕ) → Suited d → p < 2 ^ 64 → p / 4294967296 * d + p % 4294967296 ≤ 2 ^ 39
halves_fit d p s h = let upper : p / 4294967296 ≤ 4294967295 = omega arith in omega (arith, mul-le-mul upper s.small)

-- 64 products of words, each with d put for 2^32, come to 2^45 at most
pub sum_fits : (d : ℕ) → Suited d → 274877906944 + 274877906944 * d ≤ 2 ^ 45
sum_fits d s = omega (arith, s.small)

-- and 2^18 such sums to 2^63
pub sums-fit : (d m : ℕ) → Suited d → m ≤ 2 ^ 18 → (274877906944 + 274877906944 * d) * m ≤ 2 ^ 63
sums-fit d m s few = mul-le-mul (sum_fits d s) few
