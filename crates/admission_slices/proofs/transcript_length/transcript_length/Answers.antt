-- `transcript_length` meets its contract.
use native.Mathlib.Omega.{arith}
use Rattle.admission_slices.proofs.Ready.{job-sized}
use Rattle.admission_slices.proofs.Lengths.{length_none, length_found}
use Rattle.admission_slices.proofs.transcript_length.transcript_length.Goals as goal

pub output_length-requires : goal.output_length-requires
output_length-requires c = (job-sized _ _ c.in-Ok.ensures.result_value c.in-Ok.ensures.at, omega arith)

pub returns-in-Err : goal.returns-in-Err
returns-in-Err c = length_none _ _ c.in-Err.ensures.result_value

pub returns-in-Ok : goal.returns-in-Ok
returns-in-Ok c = length_found _ _ _ c.in-Ok.ensures.result_value c.in-Ok.ensures.at c.output_length.ensures
