-- `projection_fits` meets its contract.
use native.Mathlib.Omega.{arith}
use Rattle.bench_calls.proofs.Tests.{passed, failed}
use Rattle.bench_calls.proofs.Sizes.{projection-limits}
use Rattle.bench_calls.proofs.fits.projection_fits.Goals as goal

-- the sizes within their limits
pub returns-then-n-r : goal.returns-then-n-r
returns-then-n-r c = passed _ _ c.if-n-r.true

pub returns-else-n-r : goal.returns-else-n-r
returns-else-n-r c = failed _ _ c.if-n-r.false

pub overflow_mul-result : goal.overflow_mul-result
overflow_mul-result c = omega (arith, projection-limits c.args.n c.args.r c.if-n-r.true)

pub overflow_mul-result-then-n-r : goal.overflow_mul-result-then-n-r
overflow_mul-result-then-n-r c = omega (arith, projection-limits c.args.n c.args.r c.if-n-r.true)

pub overflow_mul-result-then-n-r-2 : goal.overflow_mul-result-then-n-r-2
overflow_mul-result-then-n-r-2 c = omega (arith, projection-limits c.args.n c.args.r c.if-n-r.true)

pub overflow_mul-result-then-n-r-3 : goal.overflow_mul-result-then-n-r-3
overflow_mul-result-then-n-r-3 c = omega (arith, projection-limits c.args.n c.args.r c.if-n-r.true)

pub overflow_mul-result-then-n-r-4 : goal.overflow_mul-result-then-n-r-4
overflow_mul-result-then-n-r-4 c = omega (arith, projection-limits c.args.n c.args.r c.if-n-r.true)
