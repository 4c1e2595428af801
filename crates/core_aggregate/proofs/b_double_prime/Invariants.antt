-- `b_double_prime` meets its contract. The invariant: the first k elements are stored, and what they are made of is as it was.
use mathlib.Core.Path.{◌≡◌}
use Prim.Native.Nat.{◌+◌, ◌*◌, ◌≤◌}
use lib.ListN.{length}
use Rattle.math.specs.lists.Table.{table}
use Rattle.math.specs.lists.Part.{splice}
use Rattle.spec_protocol.specs.Parameters.{triangular}
use Rattle.spec_protocol.specs.Formulas.{flat}
use Rattle.core_aggregate.specs.Weighed.{formed}
use Rattle.core_aggregate.proofs.b_double_prime.Given as goal

abbrev pub invariant-loop-k : goal.invariant-loop-k
invariant-loop-k l =
    let k = l.k in (k ≤ l.count)
    × (l.a ≡ l.a_at + 64 * (k * triangular l.r))
    × (l.phi ≡ l.phi_at + 64 * (k * (l.r * l.n)))
    × (l.scratch ≡ splice l.initial.scratch l.to (flat (table k (λ k. formed l.initial.scratch (l.a_at + 64 * (k * triangular l.r)) l.g_at (l.phi_at + 64 * (k * (l.r * l.n))) l.r
    l.n l.witness l.s_at))))
    × (length l.scratch ≡ length l.initial.scratch)
