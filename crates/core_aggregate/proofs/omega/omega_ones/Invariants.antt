-- `omega_ones` meets its contract. The invariant: the regions of the first k are stored.
use mathlib.Core.Path.{◌≡◌}
use Prim.Native.Nat.{◌+◌, ◌*◌, ◌≤◌}
use lib.ListN.{length}
use Rattle.math.specs.lists.Table.{cat}
use Rattle.math.specs.lists.Part.{splice}
use Rattle.spec_protocol.specs.Formulas.{flat}
use Rattle.core_aggregate.specs.Omega.{omega_rows}
use Rattle.core_aggregate.proofs.omega.omega_ones.Given as goal

abbrev pub invariant-loop-k : goal.invariant-loop-k
invariant-loop-k l =
    (l.k ≤ l.aggregations)
    × (l.weights ≡ l.omega_at + l.k * 256)
    × (l.place ≡ l.to + 64 * (l.k * (l.r * l.n)))
    × (l.out ≡ splice l.initial.out l.to (flat (cat l.k (omega_rows l.randomness l.pi_at l.omega_at l.r l.n))))
    × (length l.out ≡ length l.initial.out)
