-- `output_length` meets its contract.
use Rattle.std.proofs.Common.{◌∙◌, ap, arith}
use Rattle.spec_protocol.specs.Layout.{span, transcript_sections}
use Rattle.admission_slices.proofs.Ready.{job-sized}
use Rattle.labrador.proofs.needs.output_length.Goals as goal

pub output_length-requires : goal.output_length-requires
output_length-requires c = let ok = c.in_ok-params.ensures in (job-sized _ _ ok.result_value ok.at, omega arith)

pub returns : goal.returns
returns c = let ok = c.in_ok-params.ensures in record { found = ok.result_value; words = c.output_length.ensures ∙ ap (λ P. span (transcript_sections P)) ok.at }
