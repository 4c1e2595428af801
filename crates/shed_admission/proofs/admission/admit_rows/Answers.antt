-- `admit_rows` meets its contract.
use Rattle.std.proofs.lemmas.Result.{err_from_is_err_and}
use Rattle.shed_admission.proofs.Order.{rows_stops, rows-answers, rows-runnable}
use Rattle.shed_admission.proofs.admission.admit_rows.Goals as goal

pub returns-in_err-params-clause-result_value : goal.returns-in_err-params-clause-result_value
returns-in_err-params-clause-result_value c =
    let f = c.from_residual in
    let p = err_from_is_err_and f.result f.ensures.1 in
    rw (p.1, p.2) (rows_stops _ _ _ _ _ _ c.in_err-params.ensures.result_value)

pub returns-in_err-check_lent-clause-result_value : goal.returns-in_err-check_lent-clause-result_value
returns-in_err-check_lent-clause-result_value c =
    let f = c.from_residual-in_err-check_lent in
    let p = err_from_is_err_and f.result f.ensures.1 in
    let run = c.in_ok-params.ensures in
    rw (p.1, p.2) (rows-answers _ _ _ _ _ _ run.at run.result_value c.in_err-check_lent.ensures)

pub returns : goal.returns
returns c =
    let run = c.in_ok-params.ensures in
    let e = rows-answers _ _ _ _ _ _ run.at run.result_value c.in_ok-check_lent.ensures in
    record { result_value = e; at = rows-runnable _ _ _ _ _ _ run.at run.result_value e }
