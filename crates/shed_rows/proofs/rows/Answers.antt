-- `rows` meets its contract.
use mathlib.Core.Path.{ap, ◌∙◌}
use native.Mathlib.Omega.{arith}
use lib.ListN.{replicate}
use Rattle.math.specs.lists.Part.{splice}
use Rattle.spec_protocol.specs.Layout.{scratch_need}
use Rattle.relation_env_params.specs.Parameters.{parameters_of}
use Rattle.api_answers.specs.Calls.{labrador_answer}
use Rattle.spec_sheds.specs.Runs.{run}
use Rattle.spec_sheds.proofs.Stored.{zeros_put}
use Rattle.shed_admission.proofs.Order.{run-sized}
use Rattle.shed_rows.proofs.Left.{refused-answer, refused-output, refused-scratch, scratch_fits, worked-answer, worked-output, worked-scratch}
use Rattle.shed_rows.proofs.rows.Goals as goal

pub commit-answer-requires : goal.commit-answer-requires
commit-answer-requires c = c.in-Ok.ensures.at.given

pub scratch_length-need-requires : goal.scratch_length-need-requires
scratch_length-need-requires c = run-sized c.in-Ok.ensures.at.given.in_job

pub clear-requires : goal.clear-requires
clear-requires c =
    let s = c.args in
    let admitted = c.in-Ok.ensures in
    omega (arith, c.scratch_length-need.ensures, scratch_fits s.job.now (run s.first s.end) s.vectors.now s.scratch.now s.output.now admitted.result_value _ admitted.at)

pub returns-in-Ok : goal.returns-in-Ok
returns-in-Ok c =
    let s = c.args in
    let x = run s.first s.end in
    let p = c.in-Ok.params in
    let e = c.in-Ok.ensures.result_value in
    let h = c.in-Ok.ensures.at in
    let w = c.commit-answer.ensures in
    record {
      answer = w.value ∙ ap labrador_answer (worked-answer s.job.now x s.vectors.now s.scratch.now s.output.now e);
      output_left = w.output_after ∙ worked-output s.job.now x s.vectors.now s.scratch.now s.output.now e;
      scratch_left =
          worked-scratch s.job.now x s.vectors.now s.scratch.now s.output.now e p h _
          (zeros_put (scratch_need (parameters_of p)) s.scratch.now _ (scratch_fits s.job.now x s.vectors.now s.scratch.now s.output.now e p h)
          (c.clear.ensures ∙ ap (λ n. splice s.scratch.now 0 (replicate n 0)) c.scratch_length-need.ensures));
    }

pub returns-in-Err : goal.returns-in-Err
returns-in-Err c =
    let s = c.args in
    let x = run s.first s.end in
    let e = c.in-Err.ensures.result_value in
    record {
      answer = c.from.ensures ∙ ap labrador_answer (refused-answer s.job.now x s.vectors.now s.scratch.now s.output.now _ e);
      output_left = refused-output s.job.now x s.vectors.now s.scratch.now s.output.now _ e;
      scratch_left = refused-scratch s.job.now x s.vectors.now s.scratch.now s.output.now _ e;
    }
