-- `enough_aggregations` meets its contract.
use mathlib.Core.Path.{ap}
use native.Mathlib.Omega.{arith}
use Rattle.layout_section_one.proofs.Limits.{within, enough, too_few}
use Rattle.layout_section_one.proofs.enough_aggregations.Goals as goal

pub least_aggregations-least-requires : goal.least_aggregations-least-requires
least_aggregations-least-requires c =
    let w = within c.args.job.now c.requires.1 in
    let same = ap (λ P. P.log_q) c.of_words-params.ensures in
    (omega (arith, same, w.log_q.0), omega (arith, same, w.log_q.1))

pub returns-then-params-least : goal.returns-then-params-least
returns-then-params-least c =
    record { found = too_few _ _ c.of_words-params.ensures (omega (arith, c.least_aggregations-least.ensures)); read = tt }

pub returns-else-params-least : goal.returns-else-params-least
returns-else-params-least c =
    let e = c.of_words-params.ensures in
    record { found = enough _ _ e (omega (arith, c.least_aggregations-least.ensures)); read = e }
