-- `project` meets its contract.
use mathlib.Core.Path.{ap, ◌∙◌}
use native.Mathlib.Omega.{arith}
use Rattle.spec_sheds.specs.Runs.{run}
use Rattle.api_answers.specs.Calls.{labrador_answer}
use Rattle.shed_admission.proofs.Order.{run-sized}
use Rattle.shed_projection.proofs.Left.{refused-output, refused-scratch, within, output_fits, scratch_fits, worked-output, worked-scratch, made-answer}
use Rattle.shed_projection.proofs.project.Goals as goal

pub work-requires : goal.work-requires
work-requires c =
    let s = c.args in
    let x = run s.first s.end in
    let h = c.in-Ok.ensures.at in
    record {
      within = (
        within s.job.now x s.projection.now s.vectors.now s.scratch.now s.output.now _ h,
        output_fits s.job.now x s.projection.now s.vectors.now s.scratch.now s.output.now _ h,
      );
      sized = (run-sized h.runnable.given.in_job, scratch_fits s.job.now x s.projection.now s.vectors.now s.scratch.now s.output.now _ h);
    }

pub overflow_sub-end : goal.overflow_sub-end
overflow_sub-end c = omega (arith, c.in-Ok.ensures.at.runnable.given.in_job.some)

pub returns-in-Ok : goal.returns-in-Ok
returns-in-Ok c =
    let s = c.args in
    let x = run s.first s.end in
    let h = c.in-Ok.ensures.at in
    let e = c.in-Ok.ensures.result_value in
    let w = c.work.ensures in
    record {
      answer = made-answer _ w.number_value.0 w.number_value.1 ∙ ap labrador_answer e;
      output_left = worked-output s.job.now x s.projection.now s.vectors.now s.scratch.now s.output.now _ h e _ w.output_after;
      scratch_left = worked-scratch s.job.now x s.projection.now s.vectors.now s.scratch.now s.output.now _ h e _ w.scratch_after;
    }

pub returns-in-Err : goal.returns-in-Err
returns-in-Err c =
    let s = c.args in
    let x = run s.first s.end in
    let e = c.in-Err.ensures.result_value in
    record {
      answer = c.from.ensures ∙ ap labrador_answer e;
      output_left = refused-output s.job.now x s.projection.now s.vectors.now s.scratch.now s.output.now _ e;
      scratch_left = refused-scratch s.job.now x s.projection.now s.vectors.now s.scratch.now s.output.now _ e;
    }
