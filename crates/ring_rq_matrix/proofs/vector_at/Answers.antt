-- `vector_at` meets its contract.
use native.Mathlib.Omega.{arith}
use Rattle.ring_rq_matrix.proofs.Place.{product_bound}
use Rattle.ring_rq_matrix.proofs.vector_at.Goals as goal

pub overflow_mul-result : goal.overflow_mul-result
overflow_mul-result c = omega (arith, product_bound c.args.i c.args.n (omega arith) (omega arith))

pub overflow_mul-result-2 : goal.overflow_mul-result-2
overflow_mul-result-2 c = omega (arith, product_bound c.args.i c.args.n (omega arith) (omega arith))

pub overflow_add-result : goal.overflow_add-result
overflow_add-result c = omega (arith, product_bound c.args.i c.args.n (omega arith) (omega arith))
