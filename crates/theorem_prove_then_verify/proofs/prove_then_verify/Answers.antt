-- `prove_then_verify` meets its contract, from those of the two calls.
use Rattle.theorem_prove_then_verify.proofs.Demand3Calls.{prover_refuses, sent-within, both_calls}
use Rattle.theorem_prove_then_verify.proofs.prove_then_verify.Goals as goal

pub verify_first-requires : goal.verify_first-requires
verify_first-requires c =
    let a = c.args in
    let e = c.prove.ensures in
    let made = c.in-Ok.is in
    sent-within a.job.now a.randomness.now a.witness.now a.scratch.now a.output.now _ _ e.answer e.output_left made _ c.transcript_length-count.ensures

pub returns-in-Err : goal.returns-in-Err
returns-in-Err c =
    let a = c.args in
    let e = c.prove.ensures in
    record {
      result_value = prover_refuses a.job.now a.randomness.now a.witness.now a.scratch.now a.output.now _ _ e.answer e.output_left c.in-Err.refusal c.in-Err.is;
      output_after = e.output_left;
      scratch_after = e.scratch_left;
    }

pub returns-in-Ok : goal.returns-in-Ok
returns-in-Ok c =
    let a = c.args in
    let e = c.prove.ensures in
    let made = c.in-Ok.is in
    let size = c.transcript_length-count.ensures in
    let v = c.verify_first in
    let answer = both_calls a.job.now a.randomness.now a.witness.now a.scratch.now a.output.now _ _ e.answer e.output_left made v.result _ _ _
    e.scratch_left size v.ensures.result_value v.ensures.scratch_after in
    record { result_value = answer.0; output_after = answer.1.0; scratch_after = answer.1.1 }
