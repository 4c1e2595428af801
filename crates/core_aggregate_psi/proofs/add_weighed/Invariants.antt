-- `add_weighed` meets its contract. The invariant: the first c sums are stored.
use mathlib.Core.Path.{◌≡◌}
use Prim.Native.Nat.{◌≤◌}
use lib.ListN.{length}
use Rattle.math.specs.lists.Table.{table}
use Rattle.math.specs.lists.Part.{splice}
use Rattle.ring_inner_product.specs.Run.{run}
use Rattle.spec_protocol.specs.Formulas.{flat, ◌⊕◌}
use Rattle.core_aggregate_psi.specs.Grid.{weighed}
use Rattle.core_aggregate_psi.proofs.add_weighed.Given as goal

abbrev pub invariant-loop-c : goal.invariant-loop-c
invariant-loop-c l =
    let c = l.c in (c ≤ l.width) × (l.out ≡ splice l.initial.out l.to (flat (table c (λ c. run l.initial.out l.to 64 c ⊕ weighed l.job l.at l.width l.count l.numbers l.row c)))) ×
    (length l.out ≡ length l.initial.out)
