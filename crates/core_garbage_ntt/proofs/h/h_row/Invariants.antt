-- `h_row` meets its contract. The invariant: the first j cells are stored, and the places stand at the next.
use mathlib.Core.Path.{◌≡◌}
use Prim.Native.Nat.{◌+◌, ◌*◌, ◌≤◌}
use lib.ListN.{length}
use Rattle.math.specs.lists.Table.{table}
use Rattle.math.specs.lists.Part.{splice}
use Rattle.spec_protocol.specs.Formulas.{flat}
use Rattle.core_garbage_ntt.specs.NttLines.{both_ways}
use Rattle.core_garbage_ntt.proofs.h.h_row.Given as goal

abbrev pub invariant-loop-j : goal.invariant-loop-j
invariant-loop-j l =
    (l.j ≤ l.i + 1)
    × (l.across ≡ l.square + 64 * (l.i * l.r + l.j))
    × (l.down ≡ l.square + 64 * (l.j * l.r + l.i))
    × (l.place ≡ l.out_at + 64 * l.j)
    × (l.scratch ≡ splice l.initial.scratch l.out_at (flat (table l.j (both_ways l.initial.scratch l.square l.r l.i))))
    × (length l.scratch ≡ length l.initial.scratch)
