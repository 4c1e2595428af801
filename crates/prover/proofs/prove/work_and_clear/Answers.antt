-- `work_and_clear` meets its contract.
use native.Mathlib.Omega.{arith}
use lib.ListN.{length}
use Rattle.admission_slices.specs.Admission.{call_of}
use Rattle.prover_commit.proofs.Commitments.{given-changed}
use Rattle.prover.proofs.Calls.{given_of, handed-few}
use Rattle.prover.proofs.Cleared.{call_sized, lay_needs, scratch-room, scratch_cleared, output_left, output-room, output_cleared}
use Rattle.prover.proofs.prove.work_and_clear.Goals as goal

pub lay_out-regions-requires : goal.lay_out-regions-requires
lay_out-regions-requires c =
    let a = c.args in
    lay_needs a.call a.job.now a.randomness.now a.witness.now a.params a.scratch.now a.output.now c.requires

pub scratch_length-need-requires : goal.scratch_length-need-requires
scratch_length-need-requires c =
    let a = c.args in
    call_sized a.call a.job.now a.randomness.now a.witness.now a.params a.scratch.now a.output.now c.requires

pub fill-requires : goal.fill-requires
fill-requires c =
    let a = c.args in
    given_of (call_of a.call) a.job.now a.randomness.now a.witness.now a.params c.lay_out-regions.result a.scratch.now (length a.output.now)
    (handed-few a.call) c.requires c.lay_out-regions.ensures

pub put-requires : goal.put-requires
put-requires c =
    let a = c.args in
    let g = given_of (call_of a.call) a.job.now a.randomness.now a.witness.now a.params
    c.lay_out-regions.result a.scratch.now (length a.output.now) (handed-few a.call)
    c.requires c.lay_out-regions.ensures in record {
      work_given = (
        given-changed a.job.now a.witness.now a.params c.lay_out-regions.result a.scratch.now
            g.0 _ c.fill.ensures.unchanged.size,
        g.1,
      );
      filled = (
        c.in-Ok.ensures.made,
        c.requires.output_fits,
      );
    }

pub clear-requires : goal.clear-requires
clear-requires c =
    let a = c.args in
    omega (
      arith,
      scratch-room a.call a.job.now a.randomness.now a.witness.now a.params a.scratch.now a.output.now c.requires
          c.scratch_length-need.result
          c.scratch_length-need.ensures _
          c.fill.ensures.unchanged,
    )

pub output_length-length-requires : goal.output_length-length-requires
output_length-length-requires c =
    let a = c.args in
    (call_sized a.call a.job.now a.randomness.now a.witness.now a.params a.scratch.now a.output.now c.requires, c.makes-sections.ensures.2)

pub clear-requires-in-Err : goal.clear-requires-in-Err
clear-requires-in-Err c =
    let a = c.args in
    omega (
      arith,
      output-room a.call a.job.now a.randomness.now a.witness.now a.params a.scratch.now a.output.now c.requires
          _ _ _
          c.output_length-length.ensures c.makes-sections.ensures.0 c.makes-sections.ensures.1,
    )

pub clear-requires-in-Err-2 : goal.clear-requires-in-Err-2
clear-requires-in-Err-2 c =
    let a = c.args in
    omega (
      arith,
      scratch-room a.call a.job.now a.randomness.now a.witness.now a.params a.scratch.now a.output.now c.requires
          c.scratch_length-need.result
          c.scratch_length-need.ensures _
          c.fill.ensures.unchanged,
    )

pub returns-in-Ok : goal.returns-in-Ok
returns-in-Ok c =
    let a = c.args in
    let filled = c.in-Ok.ensures in record {
      result_value = filled.result_value;
      output_after = output_left a.call a.job.now a.randomness.now a.witness.now a.params a.scratch.now a.output.now c.requires filled.result_value _ c.put.ensures;
      scratch_after = scratch_cleared a.call a.job.now a.randomness.now a.witness.now a.params a.scratch.now a.output.now c.requires
          c.scratch_length-need.result
          c.scratch_length-need.ensures _
          c.fill.ensures.unchanged _ c.clear.ensures;
    }

pub returns-in-Err : goal.returns-in-Err
returns-in-Err c =
    let a = c.args in
    let refused = c.in-Err.ensures in
    let m = c.makes-sections.ensures in
    let l = c.output_length-length.ensures in record {
      result_value = refused.result_value;
      output_after = output_cleared a.call a.job.now a.randomness.now a.witness.now a.params a.scratch.now a.output.now c.requires _ _ _ l m.0 m.1
          _ refused.result_value _ c.clear-in-Err.ensures;
      scratch_after = scratch_cleared a.call a.job.now a.randomness.now a.witness.now a.params a.scratch.now a.output.now c.requires
          c.scratch_length-need.result
          c.scratch_length-need.ensures
          _ c.fill.ensures.unchanged _ c.clear-in-Err-2.ensures;
    }
