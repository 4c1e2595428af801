-- `copy` meets its contract. The invariant: the first m numbers are stored.
use mathlib.Core.Path.{◌≡◌}
use Prim.Native.Nat.{◌≤◌}
use lib.ListN.{length, get_or}
use Rattle.math.specs.lists.Table.{table}
use Rattle.math.specs.lists.Part.{splice}
use Rattle.ring_challenge_products.proofs.products.copy.Given as goal

abbrev pub invariant-loop-m : goal.invariant-loop-m
invariant-loop-m l = (l.m ≤ l.count) × (l.e ≡ splice l.initial.e l.at (table l.m (λ i. get_or l.from i 0))) × (length l.e ≡ length l.initial.e)
