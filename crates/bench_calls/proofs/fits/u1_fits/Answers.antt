-- `u1_fits` meets its contract.
use native.Mathlib.Omega.{arith}
use Rattle.bench_calls.proofs.Tests.{passed, failed}
use Rattle.bench_calls.proofs.Sizes.{u1_limits}
use Rattle.bench_calls.proofs.fits.u1_fits.Goals as goal

-- the sizes within their limits
pub returns-then-t_cells-t_parts : goal.returns-then-t_cells-t_parts
returns-then-t_cells-t_parts c = passed _ _ c.if-t_cells-t_parts.true

pub returns-else-t_cells-t_parts : goal.returns-else-t_cells-t_parts
returns-else-t_cells-t_parts c = failed _ _ c.if-t_cells-t_parts.false

pub overflow_mul-result : goal.overflow_mul-result
overflow_mul-result c = omega (
  arith,
  u1_limits c.args.rows c.args.t_cells c.args.t_parts c.args.g_cells c.args.g_parts
      c.args.base c.if-t_cells-t_parts.true,
)

pub overflow_mul-result-then-t_cells-t_parts : goal.overflow_mul-result-then-t_cells-t_parts
overflow_mul-result-then-t_cells-t_parts c = omega (
  arith,
  u1_limits c.args.rows c.args.t_cells c.args.t_parts c.args.g_cells c.args.g_parts
      c.args.base c.if-t_cells-t_parts.true,
)

pub overflow_mul-result-then-t_cells-t_parts-2 : goal.overflow_mul-result-then-t_cells-t_parts-2
overflow_mul-result-then-t_cells-t_parts-2 c = omega (
  arith,
  u1_limits c.args.rows c.args.t_cells c.args.t_parts c.args.g_cells
      c.args.g_parts c.args.base c.if-t_cells-t_parts.true,
)

pub overflow_mul-result-then-t_cells-t_parts-3 : goal.overflow_mul-result-then-t_cells-t_parts-3
overflow_mul-result-then-t_cells-t_parts-3 c = omega (
  arith,
  u1_limits c.args.rows c.args.t_cells c.args.t_parts c.args.g_cells
      c.args.g_parts c.args.base c.if-t_cells-t_parts.true,
)

pub overflow_mul-result-then-t_cells-t_parts-4 : goal.overflow_mul-result-then-t_cells-t_parts-4
overflow_mul-result-then-t_cells-t_parts-4 c = omega (
  arith,
  u1_limits c.args.rows c.args.t_cells c.args.t_parts c.args.g_cells
      c.args.g_parts c.args.base c.if-t_cells-t_parts.true,
)

pub overflow_mul-result-then-t_cells-t_parts-5 : goal.overflow_mul-result-then-t_cells-t_parts-5
overflow_mul-result-then-t_cells-t_parts-5 c = omega (
  arith,
  u1_limits c.args.rows c.args.t_cells c.args.t_parts c.args.g_cells
      c.args.g_parts c.args.base c.if-t_cells-t_parts.true,
)

pub overflow_add-result : goal.overflow_add-result
overflow_add-result c = omega (
  arith,
  u1_limits c.args.rows c.args.t_cells c.args.t_parts
      c.args.g_cells c.args.g_parts c.args.base c.if-t_cells-t_parts.true,
)

pub overflow_mul-result-then-t_cells-t_parts-6 : goal.overflow_mul-result-then-t_cells-t_parts-6
overflow_mul-result-then-t_cells-t_parts-6 c = omega (
  arith,
  u1_limits c.args.rows c.args.t_cells c.args.t_parts
      c.args.g_cells c.args.g_parts c.args.base c.if-t_cells-t_parts.true,
)

pub overflow_mul-result-then-t_cells-t_parts-7 : goal.overflow_mul-result-then-t_cells-t_parts-7
overflow_mul-result-then-t_cells-t_parts-7 c = omega (
  arith,
  u1_limits c.args.rows c.args.t_cells c.args.t_parts
      c.args.g_cells c.args.g_parts c.args.base c.if-t_cells-t_parts.true,
)

pub overflow_add-result-then-t_cells-t_parts : goal.overflow_add-result-then-t_cells-t_parts
overflow_add-result-then-t_cells-t_parts c = omega (
  arith,
  u1_limits c.args.rows c.args.t_cells
      c.args.t_parts c.args.g_cells c.args.g_parts
      c.args.base c.if-t_cells-t_parts.true,
)

pub overflow_mul-result-then-t_cells-t_parts-8 : goal.overflow_mul-result-then-t_cells-t_parts-8
overflow_mul-result-then-t_cells-t_parts-8 c = omega (
  arith,
  u1_limits c.args.rows c.args.t_cells
      c.args.t_parts c.args.g_cells c.args.g_parts
      c.args.base c.if-t_cells-t_parts.true,
)
