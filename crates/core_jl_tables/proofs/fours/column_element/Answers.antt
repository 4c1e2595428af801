use Rattle.std.proofs.Common.{arith}
use Rattle.math.proofs.lists.Padded.{padded-none, padded-next, padded_done}
use Rattle.core_jl_tables.proofs.fours.column_element.Goals as goal

pub loop-w-preserved : goal.loop-w-preserved
loop-w-preserved c = (omega arith, padded-next 64 0 _ _ _ _ c.loop-w.invariant.1 (omega arith) c.biased.ensures)

pub loop-w-init : goal.loop-w-init
loop-w-init c = (omega arith, padded-none 64 0 _)

pub returns : goal.returns
returns c = padded_done 64 0 _ _ _ c.loop-w.invariant.1 (omega arith)
