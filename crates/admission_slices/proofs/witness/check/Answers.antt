-- `witness::check` meets its contract.
use Rattle.spec_protocol.specs.Layout.{witness_refusal}
use Rattle.admission_slices.proofs.Found.{examined}
use Rattle.admission_slices.proofs.witness.check.Goals as goal

pub returns : goal.returns
unfolding witness_refusal
returns c = examined 11 12 _ 0 c.witness_sections.ensures.lists c.check.ensures
