-- `store_forms` meets its contract. The invariant: the forms of the first m elements are stored.
use mathlib.Core.Path.{◌≡◌}
use mathlib.Core.List.{flat_map}
use Prim.Native.Nat.{◌*◌, ◌≤◌}
use lib.ListN.{length}
use Rattle.math.specs.lists.Table.{table}
use Rattle.math.specs.lists.Part.{part, splice}
use Rattle.ring_digit_products.specs.Forms.{shifted}
use Rattle.ring_digit_products.proofs.forms.store_forms.Given as goal

abbrev pub invariant-loop-m : goal.invariant-loop-m
invariant-loop-m l =
    (l.m ≤ l.n) × (l.forms ≡ splice l.initial.forms 0 (flat_map (shifted l.half) (table l.m (λ q. part l.v (64 * q) 64)))) × (length l.forms ≡ length l.initial.forms)
