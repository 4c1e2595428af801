-- `admit_run` meets its contract.
use native.Mathlib.Omega.{arith}
use Rattle.shed_admission.proofs.Order.{run_empty, run_past, run_fits}
use Rattle.shed_admission.proofs.admission.admit_run.Goals.{then-end-first-via-then-end-first, then-end-first-via-else-end-first+then-params-end}
use Rattle.shed_admission.proofs.admission.admit_run.Goals as goal

pub returns-then-end-first-clause-result_value : goal.returns-then-end-first-clause-result_value
returns-then-end-first-clause-result_value c =
    let job = c.in_ok-params.ensures in
    elim c.then-end-first.branch [
      | then-end-first-via-then-end-first w ↦ run_empty _ _ _ job.at job.result_value w.if-end-first.true
      | then-end-first-via-else-end-first+then-params-end w ↦
          run_past _ _ _ job.at job.result_value (omega (arith, w.if-end-first.false)) w.if-params-end.true
    ]

pub returns : goal.returns
returns c =
    let job = c.in_ok-params.ensures in
    let both = run_fits _ _ _ job.at job.result_value (omega (arith, c.if-end-first.false)) (omega (arith, c.if-params-end.false)) in
    record { result_value = both.0; at = both.1 }
