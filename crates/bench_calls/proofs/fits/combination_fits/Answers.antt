-- `combination_fits` meets its contract.
use borrow.Author.Tests.{le-leb, lt-leb}
use Rattle.bench_calls.proofs.Tests.{passed, failed}
use Rattle.bench_calls.proofs.fits.combination_fits.Goals as goal

pub returns-then-n-le64 : goal.returns-then-n-le64
returns-then-n-le64 c = passed _ _ (le-leb _ _ c.if-n-le64.true)

pub returns-else-n-le64 : goal.returns-else-n-le64
returns-else-n-le64 c = failed _ _ (lt-leb _ _ c.if-n-le64.false)
