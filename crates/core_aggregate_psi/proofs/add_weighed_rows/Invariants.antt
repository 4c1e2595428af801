-- `add_weighed_rows` meets its contract. The invariant: the sums of the first k rows are stored.
use mathlib.Core.Path.{◌≡◌}
use Prim.Native.Nat.{◌+◌, ◌*◌, ◌≤◌}
use lib.ListN.{length}
use Rattle.math.specs.lists.Part.{splice}
use Rattle.ring_inner_product.specs.Run.{run}
use Rattle.spec_protocol.specs.Formulas.{flat, rows, ◌⊕◌}
use Rattle.core_aggregate_psi.specs.Grid.{weighed}
use Rattle.core_aggregate_psi.proofs.add_weighed_rows.Given as goal

abbrev pub invariant-loop-k : goal.invariant-loop-k
invariant-loop-k l =
    let k = l.k in (k ≤ l.aggregations)
    × (l.first ≡ l.row + k * l.count)
    × (l.place ≡ l.to + 64 * (k * l.width))
    × (l.out ≡ splice l.initial.out l.to (flat (rows k l.width (λ k c. run l.initial.out (l.to + 64 * (k * l.width)) 64 c ⊕ weighed l.job l.at l.width l.count l.numbers (l.row + k * l.count) c))))
    × (length l.out ≡ length l.initial.out)
