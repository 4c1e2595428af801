-- `add_product` meets its contract.
use Rattle.ntt_product.proofs.ntt_form.add_product.Goals as goal

pub add_values-first-requires : goal.add_values-first-requires
add_values-first-requires c = c.requires.first

pub add_values-second-requires : goal.add_values-second-requires
add_values-second-requires c = c.requires.second

pub add_values-third-requires : goal.add_values-third-requires
add_values-third-requires c = c.requires.third

pub returns : goal.returns
returns c = record { first = c.add_values-first.ensures; second = c.add_values-second.ensures; third = c.add_values-third.ensures }
