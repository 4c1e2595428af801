-- `pair_sum` meets its contract.
use Rattle.std.proofs.Common.{◌∙◌, ap₂}
use Rattle.core_jl_transpose.specs.Omega.{carried}
use Rattle.core_jl_tables.proofs.pairs.pair_sum.Goals as goal

pub returns : goal.returns
returns c = c.carry_add.ensures ∙ ap₂ carried c.term-first.ensures c.term-second.ensures
