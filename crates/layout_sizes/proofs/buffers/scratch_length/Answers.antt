-- `scratch_length` meets its contract.
use native.Mathlib.Omega.{arith}
use Rattle.relation_env_params.specs.Parameters.{parameters_of}
use Rattle.layout_sizes.proofs.Products.{Products, products}
use Rattle.layout_sizes.proofs.buffers.scratch_length.Goals.{After-triangle-t}
use Rattle.layout_sizes.proofs.buffers.scratch_length.Goals as goal

-- the bounds of the products
bounds : (c : After-triangle-t) → Products (parameters_of c.args.params) c.triangle-t.result
bounds c = products (parameters_of c.args.params) c.triangle-t.result c.requires c.triangle-t.ensures.1

pub returns : goal.returns
returns c = rw c.triangle-t.ensures.0

pub overflow_mul-result : goal.overflow_mul-result
overflow_mul-result c = omega (arith, bounds (goal.at.overflow_mul-result c).After-triangle-t)

pub overflow_add-result-2 : goal.overflow_add-result-2
overflow_add-result-2 c = omega (arith, bounds (goal.at.overflow_add-result-2 c).After-triangle-t)

pub overflow_mul-result-2 : goal.overflow_mul-result-2
overflow_mul-result-2 c = omega (arith, bounds (goal.at.overflow_mul-result-2 c).After-triangle-t)

pub overflow_mul-result-3 : goal.overflow_mul-result-3
overflow_mul-result-3 c = omega (arith, bounds (goal.at.overflow_mul-result-3 c).After-triangle-t)

pub overflow_add-result-3 : goal.overflow_add-result-3
overflow_add-result-3 c = omega (arith, bounds (goal.at.overflow_add-result-3 c).After-triangle-t)

pub overflow_add-result-4 : goal.overflow_add-result-4
overflow_add-result-4 c = omega (arith, bounds (goal.at.overflow_add-result-4 c).After-triangle-t)

pub overflow_add-result-5 : goal.overflow_add-result-5
overflow_add-result-5 c = omega (arith, bounds (goal.at.overflow_add-result-5 c).After-triangle-t)

pub overflow_mul-result-4 : goal.overflow_mul-result-4
overflow_mul-result-4 c = omega (arith, bounds (goal.at.overflow_mul-result-4 c).After-triangle-t)
