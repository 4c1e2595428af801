-- `put_rows` meets its contract.
use mathlib.Core.Path.{ap, ◌∙◌}
use native.Mathlib.Omega.{arith}
use lib.ListN.{length, length-set}
use Rattle.math.proofs.lists.Splice.{length-splice}
use Rattle.spec_sheds.specs.Runs.{run}
use Rattle.shed_admission.proofs.Order.{run-sized, few-rows}
use Rattle.shed_rows.proofs.Committed.{rows-room, commit_room, rows-stored}
use Rattle.shed_rows.proofs.put_rows.Goals as goal

pub commit_all-requires : goal.commit_all-requires
commit_all-requires c =
    let r = commit_room c.args.job.now (run c.args.first c.args.end) c.args.vectors.now c.args.output.now c.args.params c.requires _ c.of_job-a_at.ensures in
    (r.0, r.1, simp length-set r.2, r.3, r.4)

pub shape_of-output : goal.shape_of-output
shape_of-output c = ap length c.commit_all.ensures ∙ length-splice _ _ _ ∙ simp length-set

pub returns : goal.returns
returns c =
    rows-stored c.args.job.now (run c.args.first c.args.end) c.args.vectors.now c.args.output.now c.args.params c.requires _
    c.of_job-a_at.ensures _ c.commit_all.ensures

pub of_job-a_at-requires : goal.of_job-a_at-requires
of_job-a_at-requires c = (run-sized c.requires.in_job, omega arith)

pub overflow_mul-words : goal.overflow_mul-words
overflow_mul-words c = omega (arith, few-rows c.requires.in_job)

pub overflow_mul-words-2 : goal.overflow_mul-words-2
overflow_mul-words-2 c = omega (arith, few-rows c.requires.in_job)

pub overflow_cast-output : goal.overflow_cast-output
overflow_cast-output c = omega (arith, few-rows c.requires.in_job)

pub bounds-output-0 : goal.bounds-output-0
bounds-output-0 c = omega
    (arith, rows-room c.args.job.now (run c.args.first c.args.end) c.args.vectors.now c.args.output.now c.args.params c.requires)
