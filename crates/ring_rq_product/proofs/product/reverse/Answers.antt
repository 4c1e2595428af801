use Rattle.std.proofs.Common.{arith}
use Rattle.math.proofs.lists.Padded.{padded-none, padded-next, padded_done}
use Rattle.ring_rq_product.specs.Product.{reversed}
use Rattle.ring_rq_product.proofs.product.reverse.Goals as goal

pub loop-i-preserved : goal.loop-i-preserved
loop-i-preserved c = (omega arith, padded-next 64 0 _ _ _ _ c.loop-i.invariant.1 (omega arith) c.from.ensures)

pub returns : goal.returns
unfolding reversed
returns c = padded_done 64 0 _ _ _ c.loop-i.invariant.1 (omega arith)

pub loop-i-init : goal.loop-i-init
loop-i-init c = (omega arith, padded-none 64 0 _)
