-- The invariant: the norms of the first i vectors are at most A's bound.
use mathlib.Core.Path.{◌≡◌}
use Prim.Native.Nat.{◌+◌, ◌*◌}
use Rattle.spec_leaves.specs.Answer.{fine}
use Rattle.spec_protocol.specs.Checks.{first}
use Rattle.commitments_outer.specs.Cells.{vector_norm}
use Rattle.commitments_bounds.proofs.common_instances.check_witness.Given as goal

abbrev pub invariant-loop-i : goal.invariant-loop-i
invariant-loop-i l =
    (l.place ≡ l.at + 64 * (l.i * l.n))
    × (first l.i (vector_norm l.witness l.at l.n l.bound) ≡ fine)
