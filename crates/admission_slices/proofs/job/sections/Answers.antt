-- `job::sections` meets its contract.
use Rattle.layout_sizes.proofs.Sized.{sized}
use Rattle.admission_slices.proofs.Found.{examined}
use Rattle.admission_slices.proofs.job.sections.Goals as goal

pub job_sections-requires : goal.job_sections-requires
job_sections-requires c = sized _ _ c.requires.0 c.requires.1

pub returns : goal.returns
returns c = examined 3 6 _ 31 c.job_sections.ensures.lists c.check.ensures
