-- `aggregate` meets its contract.
use mathlib.Core.Path.{sym, ◌∙◌}
use Rattle.core_aggregate_ntt.proofs.Faster.{faster_weights}
use Rattle.core_aggregate_ntt.proofs.mix.aggregate.Goals as goal

pub ntt_is_faster-requires : goal.ntt_is_faster-requires
ntt_is_faster-requires c = let p = c.requires in (p.1.few, p.2.few)

pub aggregate_ntt-requires : goal.aggregate_ntt-requires
aggregate_ntt-requires c =
    (c.requires, faster_weights c.args.width c.args.constraints.count c.args.aggregated.count (sym c.ntt_is_faster.ensures ∙ c.if-ntt_is_faster.true))
