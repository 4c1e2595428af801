-- `add_term` meets its contract: the product is below 2^48.
use mathlib.Core.Path.{◌≡◌, ap, ap₂}
use Prim.Native.Nat.{ℕ, ◌+◌, ◌*◌, ◌%◌, ◌≤◌, ◌<◌, ◌^◌}
use native.Mathlib.Nat.{mul-le-mul, mod-eq_of_lt}
use native.Mathlib.Omega.{arith}
use Rattle.ring_digit_products.proofs.small.add_term.Goals as goal

-- the product is what it is modulo 2^32
product : (x y : ℕ) → x < 2 ^ 32 → y ≤ 2 ^ 16 → x % 4294967296 * (y % 4294967296) ≡ x * y
product x y hx hy = ap₂ ◌*◌ (mod-eq_of_lt hx) (mod-eq_of_lt (omega arith))

product_small : (x y : ℕ) → x < 2 ^ 32 → y ≤ 2 ^ 16 → x % 4294967296 * (y % 4294967296) ≤ 2 ^ 48
product_small x y hx hy =
    let a : x % 4294967296 ≤ 4294967296 = omega arith in
    let b : y % 4294967296 ≤ 65536 = omega arith in
    mul-le-mul a b

pub overflow_mul-result : goal.overflow_mul-result
overflow_mul-result c = let s = c.args in omega (arith, product_small s.x s.y c.requires.1 c.requires.2)

pub overflow_add-result : goal.overflow_add-result
overflow_add-result c = let s = c.args in omega (arith, product_small s.x s.y c.requires.1 c.requires.2)

pub returns : goal.returns
returns c =
    let s = c.args in
    (ap (λ p. s.sum + p) (product s.x s.y c.requires.1 c.requires.2), omega (arith, product_small s.x s.y c.requires.1 c.requires.2))
