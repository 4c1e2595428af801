use Rattle.std.proofs.Common.{refl, arith}
use Rattle.math.proofs.lists.Padded.{padded-none, padded-next, padded_done}
use Rattle.ring_rq_product.proofs.sums.reduce.Goals as goal

pub loop-k-preserved : goal.loop-k-preserved
loop-k-preserved c = (omega arith, padded-next 64 0 _ _ _ _ c.loop-k.invariant.1 (omega arith) refl)

pub loop-k-init : goal.loop-k-init
loop-k-init c = (omega arith, padded-none 64 0 _)

pub returns : goal.returns
returns c = padded_done 64 0 _ _ _ c.loop-k.invariant.1 (omega arith)
