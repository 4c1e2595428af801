-- `least_l` meets its contract.
use mathlib.Core.Path.{sym, ap}
use mathlib.Core.Bool.{cond}
use native.Mathlib.Omega.{arith}
use borrow.Author.Tests.{lt-ltb, le-ltb}
use lib.ListN.{get_or}
use Rattle.layout_section_one.proofs.least_l.Goals as goal

pub returns-then-job-gt0 : goal.returns-then-job-gt0
returns-then-job-gt0 c = let K = get_or c.args.job.now 6 0 in sym (ap (λ t. cond t 0 1) (lt-ltb 0 K (omega arith)))

pub returns-else-job-gt0 : goal.returns-else-job-gt0
returns-else-job-gt0 c = let K = get_or c.args.job.now 6 0 in sym (ap (λ t. cond t 0 1) (le-ltb 0 K (omega arith)))
