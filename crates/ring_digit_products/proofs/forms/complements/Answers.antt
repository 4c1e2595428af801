-- `complements` meets its contract.
use Rattle.std.proofs.Common.{rules}
use Rattle.ring_zq.proofs.Made.{made}
use Rattle.ring_digit_products.proofs.forms.complements.Goals as goal

pub returns : goal.returns
returns c = made _ _ _ (λ i y q k. search rules) _ 64 c.from_fn.ensures.items
