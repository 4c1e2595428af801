-- `zero` meets its contract. The invariant: the first k elements are zero.
use mathlib.Core.Path.{◌≡◌}
use Prim.Native.Nat.{◌+◌, ◌*◌, ◌≤◌}
use lib.ListN.{length}
use Rattle.math.specs.lists.Table.{table}
use Rattle.math.specs.lists.Part.{splice}
use Rattle.spec_leaves.specs.Ring.{RqOps}
use Rattle.spec_protocol.specs.Formulas.{flat}
use Rattle.ring_rq_vector.proofs.vector.zero.Given as goal

abbrev pub invariant-loop-k : goal.invariant-loop-k
invariant-loop-k l =
    (l.k ≤ l.count) × (l.place ≡ l.at + 64 * l.k) × (l.out ≡ splice l.initial.out l.at (flat (table l.k (λ i. RqOps.nil)))) × (length l.out ≡ length l.initial.out)
