-- `store_forms` meets its contract. The invariant: the first k elements are stored, and what they are made of is as it was.
use mathlib.Core.Path.{◌≡◌}
use Prim.Native.Nat.{◌+◌, ◌*◌, ◌≤◌}
use lib.ListN.{length}
use Rattle.math.specs.lists.Table.{table}
use Rattle.math.specs.lists.Part.{splice}
use Rattle.spec_protocol.specs.Parameters.{triangular}
use Rattle.spec_protocol.specs.Formulas.{flat}
use Rattle.core_aggregate_ntt.specs.Pass.{formed_with}
use Rattle.core_aggregate_ntt.proofs.one_pass.store_forms.Given as goal

abbrev pub invariant-loop-k : goal.invariant-loop-k
invariant-loop-k l =
    (l.k ≤ l.count)
    × (l.a ≡ l.a_at + 64 * (l.k * triangular l.r))
    × (l.scratch ≡ splice l.initial.scratch l.to (flat (table l.k (formed_with l.initial.scratch l.a_at l.g_at l.r l.totals))))
    × (length l.scratch ≡ length l.initial.scratch)
