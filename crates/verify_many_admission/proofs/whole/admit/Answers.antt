-- `admit` meets its contract.
use Rattle.std.proofs.lemmas.Result.{err_from_is_err_and}
use Rattle.verify_many_admission.proofs.Refused.{none-handed, too_many, so_many}
use Rattle.verify_many_admission.proofs.whole.admit.Goals.{then-count-lt1-via-then-count-lt1, then-count-lt1-via-else-count-lt1+then-count-gt8}
use Rattle.verify_many_admission.proofs.whole.admit.Goals as goal

pub returns-then-count-lt1-clause-result_value : goal.returns-then-count-lt1-clause-result_value
returns-then-count-lt1-clause-result_value c =
    let s = c.args in
    elim c.then-count-lt1.branch [
      | then-count-lt1-via-then-count-lt1 w ↦ none-handed s.job.now s.count s.scratch w.if-count-lt1.true
      | then-count-lt1-via-else-count-lt1+then-count-gt8 w ↦ too_many s.job.now s.count s.scratch w.if-count-lt1.false w.if-count-gt8.true
    ]

pub returns-in_err-params-clause-result_value : goal.returns-in_err-params-clause-result_value
returns-in_err-params-clause-result_value c =
    let s = c.args in
    let p = err_from_is_err_and c.from_residual.result c.from_residual.ensures.1 in
    rw (p.1, p.2) (so_many s.job.now s.count s.scratch c.if-count-lt1.false c.if-count-gt8.false c.in_err-params.ensures.result_value)

pub returns-clause-result_value : goal.returns-clause-result_value
returns-clause-result_value c =
    let s = c.args in
    so_many s.job.now s.count s.scratch c.if-count-lt1.false c.if-count-gt8.false c.in_ok-params.ensures.result_value
