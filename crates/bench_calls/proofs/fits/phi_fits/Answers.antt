-- `phi_fits` meets its contract.
use native.Mathlib.Omega.{arith}
use Rattle.bench_calls.proofs.Tests.{passed, failed}
use Rattle.bench_calls.proofs.Sizes.{phi-limits}
use Rattle.bench_calls.proofs.fits.phi_fits.Goals as goal

-- the sizes within their limits
pub returns-then-n-r : goal.returns-then-n-r
returns-then-n-r c = passed _ _ c.if-n-r.true

pub returns-else-n-r : goal.returns-else-n-r
returns-else-n-r c = failed _ _ c.if-n-r.false

pub overflow_mul-result : goal.overflow_mul-result
overflow_mul-result c = omega (arith, phi-limits c.args.r c.args.n c.args.count c.args.number c.if-n-r.true)

pub overflow_mul-result-then-n-r : goal.overflow_mul-result-then-n-r
overflow_mul-result-then-n-r c = omega (arith, phi-limits c.args.r c.args.n c.args.count c.args.number c.if-n-r.true)

pub overflow_mul-result-then-n-r-2 : goal.overflow_mul-result-then-n-r-2
overflow_mul-result-then-n-r-2 c = omega (arith, phi-limits c.args.r c.args.n c.args.count c.args.number c.if-n-r.true)

pub overflow_mul-result-then-n-r-3 : goal.overflow_mul-result-then-n-r-3
overflow_mul-result-then-n-r-3 c = omega (arith, phi-limits c.args.r c.args.n c.args.count c.args.number c.if-n-r.true)

pub overflow_mul-result-then-n-r-4 : goal.overflow_mul-result-then-n-r-4
overflow_mul-result-then-n-r-4 c = omega (arith, phi-limits c.args.r c.args.n c.args.count c.args.number c.if-n-r.true)

pub overflow_mul-result-then-n-r-5 : goal.overflow_mul-result-then-n-r-5
overflow_mul-result-then-n-r-5 c = omega (arith, phi-limits c.args.r c.args.n c.args.count c.args.number c.if-n-r.true)

pub overflow_mul-result-then-n-r-6 : goal.overflow_mul-result-then-n-r-6
overflow_mul-result-then-n-r-6 c = omega (arith, phi-limits c.args.r c.args.n c.args.count c.args.number c.if-n-r.true)

pub overflow_add-result : goal.overflow_add-result
overflow_add-result c = omega (arith, phi-limits c.args.r c.args.n c.args.count c.args.number c.if-n-r.true)

pub overflow_mul-result-then-n-r-7 : goal.overflow_mul-result-then-n-r-7
overflow_mul-result-then-n-r-7 c = omega (arith, phi-limits c.args.r c.args.n c.args.count c.args.number c.if-n-r.true)

pub overflow_add-result-then-n-r : goal.overflow_add-result-then-n-r
overflow_add-result-then-n-r c = omega (arith, phi-limits c.args.r c.args.n c.args.count c.args.number c.if-n-r.true)

pub overflow_mul-result-then-n-r-8 : goal.overflow_mul-result-then-n-r-8
overflow_mul-result-then-n-r-8 c = omega (arith, phi-limits c.args.r c.args.n c.args.count c.args.number c.if-n-r.true)

pub overflow_mul-result-then-n-r-9 : goal.overflow_mul-result-then-n-r-9
overflow_mul-result-then-n-r-9 c = omega (arith, phi-limits c.args.r c.args.n c.args.count c.args.number c.if-n-r.true)

pub overflow_mul-result-then-n-r-10 : goal.overflow_mul-result-then-n-r-10
overflow_mul-result-then-n-r-10 c = omega (arith, phi-limits c.args.r c.args.n c.args.count c.args.number c.if-n-r.true)
