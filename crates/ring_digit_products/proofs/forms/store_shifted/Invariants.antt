-- `store_shifted` meets its contract. The invariant: the first m coefficients are stored.
use mathlib.Core.Path.{◌≡◌}
use Prim.Native.Nat.{◌+◌, ◌%◌, ◌≤◌}
use lib.ListN.{length, get_or}
use Rattle.math.specs.lists.Table.{table}
use Rattle.math.specs.lists.Part.{splice}
use Rattle.spec_leaves.specs.Zq.{Q}
use Rattle.ring_digit_products.proofs.forms.store_shifted.Given as goal

abbrev pub invariant-loop-m : goal.invariant-loop-m
invariant-loop-m l =
    (l.m ≤ 64) × (l.forms ≡ splice l.initial.forms l.to (table l.m (λ j. (get_or l.a j 0 + l.half) % Q))) × (length l.forms ≡ length l.initial.forms)
