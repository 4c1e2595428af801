-- `check_lent` meets its contract.
use Rattle.std.proofs.lemmas.Result.{err_from_is_err_and}
use Rattle.admission_slices.proofs.Stages.{stops_at}
use Rattle.layout_sections.proofs.Then.{goes_on}
use Rattle.shed_admission.specs.Found.{lent}
use Rattle.shed_admission.proofs.checks.check_lent.Goals as goal

pub returns-in_err-check_section : goal.returns-in_err-check_section
unfolding lent
returns-in_err-check_section c =
    let f = c.from_residual in
    let p = err_from_is_err_and f.result f.ensures.1 in
    rw (p.1, p.2) (stops_at _ _ (stops_at _ _ c.in_err-check_section.ensures))

pub returns-in_err-check : goal.returns-in_err-check
unfolding lent
returns-in_err-check c =
    let f = c.from_residual-in_err-check in
    let p = err_from_is_err_and f.result f.ensures.1 in
    rw (p.1, p.2) (stops_at _ _ (goes_on c.in_ok-check_section.ensures c.in_err-check.ensures))

pub returns : goal.returns
unfolding lent
returns c = goes_on (goes_on c.in_ok-check_section.ensures c.in_ok-check.ensures) c.check_length.ensures
