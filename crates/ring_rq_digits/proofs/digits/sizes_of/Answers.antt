-- `sizes_of` meets its contract.
use Rattle.std.proofs.Common.{rules}
use Rattle.ring_zq.proofs.Made.{made}
use Rattle.ring_rq_digits.proofs.digits.sizes_of.Goals as goal

pub returns : goal.returns
returns c = made _ _ _ (λ i y q k. search rules) _ 64 c.from_fn.ensures.items
