-- `scratch_length` meets its contract.
use Rattle.std.proofs.Common.{◌∙◌, ap}
use Rattle.spec_protocol.specs.Layout.{scratch_need}
use Rattle.admission_slices.proofs.Ready.{job-sized}
use Rattle.labrador.proofs.needs.scratch_length.Goals as goal

pub scratch_length-requires : goal.scratch_length-requires
scratch_length-requires c = let ok = c.in_ok-params.ensures in job-sized _ _ ok.result_value ok.at

pub returns : goal.returns
returns c = let ok = c.in_ok-params.ensures in record { found = ok.result_value; words = c.scratch_length.ensures ∙ ap scratch_need ok.at }
