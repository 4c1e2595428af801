-- `transcript::check` meets its contract.
use Rattle.spec_protocol.specs.Layout.{transcript_refusal}
use Rattle.admission_slices.proofs.Found.{examined}
use Rattle.admission_slices.proofs.transcript.check.Goals as goal

pub returns : goal.returns
unfolding transcript_refusal
returns c = examined 9 10 _ 0 c.transcript_sections.ensures.lists c.check.ensures
