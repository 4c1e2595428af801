-- `Rq::sub` meets its contract.
use Rattle.std.proofs.Common.{rules}
use Rattle.ring_zq.proofs.Made.{made}
use Rattle.spec_leaves.specs.Rq.{rsub}
use Rattle.ring_rq.proofs.rq.Rq.sub.Goals as goal

pub returns : goal.returns
unfolding rsub
returns c = made _ _ _ (λ i y q k. search rules) _ 64 c.from_fn.ensures.items
