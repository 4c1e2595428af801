-- `check_given` meets its contract.
use Rattle.std.proofs.lemmas.Result.{err_from_is_err_and}
use Rattle.admission_slices.proofs.Stages.{stops_at}
use Rattle.layout_sections.proofs.Then.{goes_on}
use Rattle.shed_admission.specs.Found.{given}
use Rattle.shed_admission.proofs.checks.check_given.Goals as goal

pub returns-in_err-check_section : goal.returns-in_err-check_section
unfolding given
returns-in_err-check_section c =
    let f = c.from_residual in
    let p = err_from_is_err_and f.result f.ensures.1 in
    rw (p.1, p.2) (stops_at _ _ c.in_err-check_section.ensures)

pub returns : goal.returns
unfolding given
returns c = goes_on c.in_ok-check_section.ensures c.check_lent.ensures
