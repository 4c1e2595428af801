-- `line` meets its contract.
use native.Mathlib.Omega.{arith}
use Rattle.ring_rq_matrix.proofs.Place.{product_bound}
use Rattle.relation_statement.proofs.Formula.{words_of_line}
use Rattle.relation_statement.proofs.line.Goals as goal

pub returns : goal.returns
returns c =
    let s = c.args in
    words_of_line _ s.phi.now s.phi_at s.s.now s.s_at s.r s.n c.inner_product.ensures

pub overflow_mul-r : goal.overflow_mul-r
overflow_mul-r c = omega (arith, product_bound c.args.r c.args.n (omega arith) (omega arith))

pub inner_product-requires : goal.inner_product-requires
inner_product-requires c = omega (arith, product_bound c.args.r c.args.n (omega arith) (omega arith))
