-- `lowered_sum` meets its contract.
use Rattle.std.proofs.Common.{ap, ◌∙◌}
use Rattle.ring_zq.specs.Words.{lowered}
use Rattle.core_jl_tables.proofs.pairs.lowered_sum.Goals as goal

pub returns : goal.returns
returns c = c.lowered.ensures ∙ ap lowered c.carry_add.ensures
