-- `add` meets its contract: the factors are words, so that their product is below 2^64.
use Rattle.std.proofs.Common.{◌≡◌, ℕ, ◌+◌, ◌*◌, ◌/◌, ◌%◌, ◌^◌, ◌<◌, ◌≤◌, ap, ◌∙◌, ap₂, mod-eq_of_lt, arith}
use Rattle.spec_leaves.proofs.Fits.{product_max}
use Rattle.ring_rq_product.specs.Product.{WithProduct}
use Rattle.ring_rq_product.proofs.product.add.Goals as goal

-- the product is what it is modulo 2^32
product : (x y : ℕ) → x < 2 ^ 32 → y < 2 ^ 32 → x % 4294967296 * (y % 4294967296) ≡ x * y
product x y hx hy = ap₂ ◌*◌ (mod-eq_of_lt hx) (mod-eq_of_lt hy)

product_bound : (x y : ℕ) → x % 4294967296 * (y % 4294967296) ≤ 18446744065119617025
product_bound x y = product_max (omega arith) (omega arith)

pub overflow_mul-product : goal.overflow_mul-product
overflow_mul-product c = omega (arith, product_bound c.args.x c.args.y)

pub overflow_add-result : goal.overflow_add-result
overflow_add-result c = let s = c.args in omega (arith, product_bound s.x s.y)

pub returns : goal.returns
unfolding WithProduct
returns c =
    let s = c.args in
    let e = product s.x s.y c.requires.1 c.requires.2 in (
      c.wrapping_add_u64-sum.ensures.value ∙ ap (λ p. (s.h.sum + p) % 2 ^ 64) e,
      ap (λ p. s.h.upper + p / 4294967296) e,
      omega (arith, product_bound s.x s.y),
    )
