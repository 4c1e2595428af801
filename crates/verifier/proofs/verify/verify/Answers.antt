-- `verify` meets its contract.
use mathlib.Core.Path.{◌∙◌}
use Rattle.verifier.proofs.Whole.{length-zeroed, refused-verdict, refused-scratch, worked-verdict, worked-scratch}
use Rattle.verifier.proofs.verify.verify.Goals as goal

pub work_and_clear-requires : goal.work_and_clear-requires
work_and_clear-requires c = c.in-Ok.ensures.at

pub returns-in-Err : goal.returns-in-Err
returns-in-Err c =
    let s = c.args in
    let e = c.in-Err.ensures.result_value in record {
      result_value = refused-verdict s.job.now s.randomness.now s.transcript.now s.scratch.now _ e;
      scratch_after = refused-scratch s.job.now s.randomness.now s.transcript.now s.scratch.now _ e;
    }

pub returns-in-Ok : goal.returns-in-Ok
returns-in-Ok c =
    let s = c.args in
    let e = c.in-Ok.ensures.result_value in
    let w = c.work_and_clear.ensures in record {
      result_value = c.from.ensures ∙ worked-verdict s.job.now s.randomness.now s.transcript.now s.scratch.now e w.result_value;
      scratch_after = worked-scratch s.job.now s.randomness.now s.transcript.now s.scratch.now e w.scratch_after;
    }

-- the scratch keeps its length
pub shape_of-scratch : goal.shape_of-scratch
shape_of-scratch c = length-zeroed _ c.args.scratch.now _ c.work_and_clear.ensures.scratch_after c.in-Ok.ensures.at.handed.scratch_fits
