-- `fits` meets its contract.
use Rattle.std.proofs.lemmas.Result.{err_from_is_err_and}
use Rattle.layout_sections.proofs.Then.{goes_on}
use Rattle.admission_slices.proofs.Stages.{stops_at}
use Rattle.load_needs.proofs.Refusals.{length_found}
use Rattle.load_needs.proofs.fits.Goals as goal

pub returns-in_err-check_length : goal.returns-in_err-check_length
returns-in_err-check_length c =
    let need = c.lengths-needs.ensures in
    let f = c.from_residual in
    let p = err_from_is_err_and f.result f.ensures.1 in
    rw (p.1, p.2) (stops_at _ _ (stops_at _ _ (length_found c.args.job need.job c.in_err-check_length.ensures)))

pub returns-in_err-check_length-2 : goal.returns-in_err-check_length-2
returns-in_err-check_length-2 c =
    let need = c.lengths-needs.ensures in
    let s = c.args in
    let f = c.from_residual-in_err-check_length-2 in
    let p = err_from_is_err_and f.result f.ensures.1 in
    rw (p.1, p.2) (stops_at _ _ (goes_on (length_found s.job need.job c.in_ok-check_length.ensures) (length_found s.witness need.witness c.in_err-check_length-2.ensures)))

pub returns : goal.returns
returns c =
    let need = c.lengths-needs.ensures in
    let s = c.args in
    goes_on
    (goes_on (length_found s.job need.job c.in_ok-check_length.ensures) (length_found s.witness need.witness c.in_ok-check_length-2.ensures))
    (length_found s.randomness need.randomness c.check_length-3.ensures)
