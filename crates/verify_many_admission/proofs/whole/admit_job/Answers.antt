-- `admit_job` meets its contract.
use Rattle.admission_slices.proofs.Ready.{job-sized}
use Rattle.verify_many_admission.proofs.whole.admit_job.Goals as goal

pub check_scratch-requires : goal.check_scratch-requires
check_scratch-requires c = let e = c.in_ok-params.ensures in (job-sized _ _ e.result_value e.at, c.requires)
