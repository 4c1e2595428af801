-- `verify_many` meets its contract.
use mathlib.Core.Path.{sym, ap, ◌∙◌}
use Rattle.std.specs.Prelude.{Err}
use Rattle.relation_env_params.specs.declared.env_params.EnvironmentParameters.{EnvironmentParameters}
use Rattle.verifier.proofs.Whole.{length-zeroed}
use Rattle.verify_many_admission.specs.Admitted.{of_many}
use Rattle.verify_many.specs.Windows.{verdicts_of}
use Rattle.verify_many.proofs.Whole.{count-answer, count-scratch, refused-answer, refused-scratch, given-answer, given-scratch}
use Rattle.verify_many.proofs.call.verify_many.Goals as goal

pub work-requires : goal.work-requires
work-requires c = c.in-Ok.ensures.at_many

pub returns-in-Err-Count : goal.returns-in-Err-Count
returns-in-Err-Count c =
    let a = c.args in
    let e = sym (ap (λ r. of_many {T = EnvironmentParameters} (Err r)) c.in-Err-Count.field-0-is) ∙ c.in-Err-Count.ensures.result_value in
    let v = verdicts_of a.job.now a.count a.randomness.now a.transcripts.now in
    record {
      answer = count-answer a.job.now a.count a.scratch.now v e c.refused.result c.refused.ensures;
      scratch_left = count-scratch a.job.now a.count a.scratch.now v e;
    }

pub returns-in-Err-Refused : goal.returns-in-Err-Refused
returns-in-Err-Refused c =
    let a = c.args in
    let e = sym (ap (λ r. of_many {T = EnvironmentParameters} (Err r)) c.in-Err-Refused.field-0-is) ∙ c.in-Err-Refused.ensures.result_value in
    let v = verdicts_of a.job.now a.count a.randomness.now a.transcripts.now in
    record {
      answer = refused-answer a.job.now a.count a.scratch.now v c.in-Err-Refused.refusal e c.from.result c.from.ensures;
      scratch_left = refused-scratch a.job.now a.count a.scratch.now v c.in-Err-Refused.refusal e;
    }

pub returns-in-Ok : goal.returns-in-Ok
returns-in-Ok c =
    let a = c.args in
    let e = c.in-Ok.ensures.result_value in
    let w = c.work.ensures in
    let v = verdicts_of a.job.now a.count a.randomness.now a.transcripts.now in
    record {
      answer = given-answer a.job.now a.count a.scratch.now v e c.work.result w.value;
      scratch_left = given-scratch a.job.now a.count a.scratch.now v e w.scratch_after;
    }

-- the scratch keeps its length
pub shape_of-scratch : goal.shape_of-scratch
shape_of-scratch c = length-zeroed _ c.args.scratch.now _ c.work.ensures.scratch_after c.in-Ok.ensures.at_many.room
