-- `check` meets its contract.
use Rattle.std.proofs.lemmas.Result.{err_from_is_err_and}
use Rattle.shed_sums.proofs.Order.{first_refuses, second_refuses, output-answers}
use Rattle.shed_sums.proofs.check.Goals as goal

pub returns-in_err-check_p : goal.returns-in_err-check_p
returns-in_err-check_p c =
    let f = c.from_residual in
    let p = err_from_is_err_and f.result f.ensures.1 in
    rw (p.1, p.2) (first_refuses _ _ _ _ c.in_err-check_p.ensures)

pub returns-in_err-check_p-2 : goal.returns-in_err-check_p-2
returns-in_err-check_p-2 c =
    let f = c.from_residual-in_err-check_p-2 in
    let p = err_from_is_err_and f.result f.ensures.1 in
    rw (p.1, p.2) (second_refuses _ _ _ c.in_ok-check_p.ensures _ c.in_err-check_p-2.ensures)

pub returns : goal.returns
returns c = output-answers _ _ _ c.in_ok-check_p.ensures c.in_ok-check_p-2.ensures c.check_length.ensures
