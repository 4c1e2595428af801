-- `fold` meets its contract. The invariant: the first i rows are stored, and the place stands at the next row.
use mathlib.Core.Path.{◌≡◌}
use Prim.Native.Nat.{◌+◌, ◌*◌, ◌≤◌}
use lib.ListN.{length}
use Rattle.math.specs.lists.Part.{splice}
use Rattle.spec_protocol.specs.Parameters.{triangular}
use Rattle.spec_protocol.specs.Formulas.{flat, triangle}
use Rattle.core_garbage_ntt.specs.NttLines.{both_ways}
use Rattle.core_garbage_ntt.proofs.h.fold.Given as goal

abbrev pub invariant-loop-i : goal.invariant-loop-i
invariant-loop-i l =
    (l.i ≤ l.r)
    × (l.place ≡ l.out_at + 64 * triangular l.i)
    × (l.scratch ≡ splice l.initial.scratch l.out_at (flat (triangle l.i (both_ways l.initial.scratch l.square l.r))))
    × (length l.scratch ≡ length l.initial.scratch)
