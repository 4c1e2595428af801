-- `prover::admit` meets its contract.
use mathlib.Core.Path.{sym}
use Rattle.std.proofs.lemmas.Result.{err_from_is_err_and}
use Rattle.admission_order.proofs.Refusals.{job_refuses, randomness_refuses, witness_refuses, scratch_refuses, output-answers}
use Rattle.admission_slices.proofs.Ready.{job-sized, provable}
use Rattle.admission_order.proofs.prover.admit.Goals as goal

pub check-requires-2 : goal.check-requires-2
check-requires-2 c = let job = c.in_ok-params.ensures in job-sized _ _ job.result_value job.at

pub check-requires-3 : goal.check-requires-3
check-requires-3 c = let job = c.in_ok-params.ensures in job-sized _ _ job.result_value job.at

pub check-requires-4 : goal.check-requires-4
check-requires-4 c = let job = c.in_ok-params.ensures in job-sized _ _ job.result_value job.at

pub check-requires-5 : goal.check-requires-5
check-requires-5 c = let job = c.in_ok-params.ensures in job-sized _ _ job.result_value job.at

pub returns-in_err-params-clause-result_value : goal.returns-in_err-params-clause-result_value
returns-in_err-params-clause-result_value c =
    let f = c.from_residual in
    let p = err_from_is_err_and f.result f.ensures.1 in
    rw (p.1, p.2) (job_refuses _ _ _ _ _ _ _ c.in_err-params.ensures.result_value)

pub returns-in_err-check-clause-result_value : goal.returns-in_err-check-clause-result_value
returns-in_err-check-clause-result_value c =
    let f = c.from_residual-in_err-check in
    let p = err_from_is_err_and f.result f.ensures.1 in
    let job = c.in_ok-params.ensures in
    rw (p.1, p.2) (randomness_refuses _ _ _ _ _ _ _ job.at job.result_value _ c.in_err-check.ensures)

pub returns-in_err-check-2-clause-result_value : goal.returns-in_err-check-2-clause-result_value
returns-in_err-check-2-clause-result_value c =
    let f = c.from_residual-in_err-check-2 in
    let p = err_from_is_err_and f.result f.ensures.1 in
    let job = c.in_ok-params.ensures in
    rw (p.1, p.2) (witness_refuses _ _ _ _ _ _ _ job.at job.result_value c.in_ok-check.ensures _ c.in_err-check-2.ensures)

pub returns-in_err-check-3-clause-result_value : goal.returns-in_err-check-3-clause-result_value
returns-in_err-check-3-clause-result_value c =
    let f = c.from_residual-in_err-check-3 in
    let p = err_from_is_err_and f.result f.ensures.1 in
    let job = c.in_ok-params.ensures in
    rw (p.1, p.2) (scratch_refuses _ _ _ _ _ _ _ job.at job.result_value c.in_ok-check.ensures c.in_ok-check-2.ensures _ c.in_err-check-3.ensures)

pub returns-in_err-check-4-clause-result_value : goal.returns-in_err-check-4-clause-result_value
returns-in_err-check-4-clause-result_value c =
    let f = c.from_residual-in_err-check-4 in
    let p = err_from_is_err_and f.result f.ensures.1 in
    let job = c.in_ok-params.ensures in
    rw (p.1, p.2) (output-answers _ _ _ _ _ _ _ job.at job.result_value c.in_ok-check.ensures c.in_ok-check-2.ensures c.in_ok-check-3.ensures c.in_err-check-4.ensures)

pub returns : goal.returns
returns c =
    let job = c.in_ok-params.ensures in
    let e = output-answers _ _ _ _ _ _ _ job.at job.result_value c.in_ok-check.ensures c.in_ok-check-2.ensures c.in_ok-check-3.ensures c.in_ok-check-4.ensures in
    record { result_value = e; at = provable _ _ _ _ _ _ _ job.at (sym e) }
