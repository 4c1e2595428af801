-- `prove` meets its contract.
use mathlib.Core.Path.{◌∙◌}
use Rattle.std.proofs.lemmas.Result.{err_from_is_err_and}
use Rattle.admission_slices.specs.Admission.{call_of}
use Rattle.prover.proofs.Calls.{refused-answer, refused-output, refused-scratch, worked-answer, worked-output, worked-scratch}
use Rattle.prover.proofs.prove.prove.Goals as goal

pub work_and_clear-requires : goal.work_and_clear-requires
work_and_clear-requires c = c.in_ok-params.ensures.at

pub returns-in_err-params : goal.returns-in_err-params
returns-in_err-params c =
    let a = c.args in
    let f = c.from_residual in
    let p = err_from_is_err_and f.result f.ensures.1 in
    let e = c.in_err-params.ensures.result_value in
    record {
      answer = rw (p.1, p.2) (refused-answer (call_of a.call) a.job.now a.randomness.now a.witness.now a.scratch.now a.output.now _ e);
      output_left = refused-output (call_of a.call) a.job.now a.randomness.now a.witness.now a.scratch.now a.output.now _ e;
      scratch_left = refused-scratch (call_of a.call) a.job.now a.randomness.now a.witness.now a.scratch.now a.output.now _ e;
    }

pub returns : goal.returns
returns c =
    let a = c.args in
    let e = c.in_ok-params.ensures.result_value in
    let w = c.work_and_clear.ensures in
    record {
      answer = w.result_value ∙ worked-answer (call_of a.call) a.job.now a.randomness.now a.witness.now a.scratch.now a.output.now e;
      output_left = w.output_after ∙ worked-output (call_of a.call) a.job.now a.randomness.now a.witness.now a.scratch.now a.output.now e;
      scratch_left = w.scratch_after ∙ worked-scratch (call_of a.call) a.job.now a.randomness.now a.witness.now a.scratch.now a.output.now e;
    }
