-- `ranges` meets its contract.
use mathlib.Core.Path.{subst}
use Rattle.spec_leaves.specs.Answer.{◌then◌}
use Rattle.spec_protocol.specs.Parameters.{parameters}
use Rattle.spec_protocol.specs.Ranges.{pairs_refusal, ranges_refusal}
use Rattle.admission_slices.proofs.Ready.{job-sized}
use Rattle.admission_slices.proofs.Stages.{stops_at}
use Rattle.ranges.specs.Answers.{Ranges}
use Rattle.ranges.proofs.Refused.{refusal_ranges}
use Rattle.ranges.proofs.call.ranges.Goals as goal

pub of_parameters-requires : goal.of_parameters-requires
of_parameters-requires c = job-sized _ _ c.in-Ok.ensures.result_value c.in-Ok.ensures.at

pub returns-in-Err : goal.returns-in-Err
unfolding ranges_refusal
returns-in-Err c =
    let s = c.args in
    let P = parameters s.job.now in
    let r = c.in-Err.refusal in
    refusal_ranges P s.lows.now s.highs.now (ranges_refusal s.job.now s.lows.now s.highs.now) _ r (stops_at r (pairs_refusal P s.lows.now s.highs.now) c.in-Err.ensures.result_value) c.from.ensures

pub returns-in-Ok : goal.returns-in-Ok
unfolding ranges_refusal
returns-in-Ok c =
    let s = c.args in
    let P = parameters s.job.now in
    let e = c.in-Ok.ensures in
    subst (λ a. Ranges P s.lows.now s.highs.now (a then pairs_refusal P s.lows.now s.highs.now) c.of_parameters.result) e.result_value
    (subst (λ P. Ranges P s.lows.now s.highs.now (pairs_refusal P s.lows.now s.highs.now) c.of_parameters.result) e.at c.of_parameters.ensures)
