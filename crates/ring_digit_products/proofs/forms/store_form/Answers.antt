-- `store_form` meets its contract: the coefficients of −a, then those of a.
use mathlib.Core.Path.{◌∙◌, ap}
use Prim.Native.Nat.{◌+◌, ◌%◌}
use lib.ListN.{get_or}
use Rattle.math.specs.lists.Table.{table}
use Rattle.math.specs.lists.Part.{splice}
use Rattle.spec_leaves.specs.Zq.{Q}
use Rattle.ring_digit_products.proofs.Shifted.{halves_form}
use Rattle.ring_digit_products.proofs.forms.store_form.Goals as goal

pub returns : goal.returns
returns c =
    let s = c.args in
    let first = c.store_shifted.ensures in
    c.store_shifted-2.ensures
    ∙ ap (λ w. splice w (s.to + 64) (table 64 (λ m. (get_or s.a m 0 + s.half) % Q))) first
    ∙ halves_form s.half s.a _ s.forms.now s.to c.complements-negated.ensures
