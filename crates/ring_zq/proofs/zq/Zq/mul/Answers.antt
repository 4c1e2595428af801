-- `Zq::mul` meets its contract.
use Rattle.std.proofs.Common.{arith}
use Rattle.spec_leaves.proofs.Fits.{product_max}
use Rattle.ring_zq.proofs.zq.Zq.mul.Goals as goal

pub overflow_mul-product : goal.overflow_mul-product
overflow_mul-product c =
    let s = c.args in
    omega (arith, product_max {a = s.self.0} {b = s.rhs.0} (omega arith) (omega arith))

pub overflow_cast-product-then-this-eq-LACK-2 : goal.overflow_cast-product-then-this-eq-LACK-2
overflow_cast-product-then-this-eq-LACK-2 c =
    let s = c.args in
    omega (arith, product_max {a = s.self.0} {b = s.rhs.0} (omega arith) (omega arith))
