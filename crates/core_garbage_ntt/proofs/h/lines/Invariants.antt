-- `lines` meets its contract. The invariant: the first i rows are stored, and the places stand at the next vector and row.
use mathlib.Core.Path.{◌≡◌}
use Prim.Native.Nat.{◌+◌, ◌*◌, ◌≤◌}
use lib.ListN.{length}
use Rattle.math.specs.lists.Part.{splice}
use Rattle.spec_protocol.specs.Formulas.{flat, rows}
use Rattle.core_garbage_ntt.specs.NttLines.{ntt_line}
use Rattle.core_garbage_ntt.proofs.h.lines.Given as goal

abbrev pub invariant-loop-i : goal.invariant-loop-i
invariant-loop-i l =
    (l.i ≤ l.r)
    × (l.start ≡ l.phi_at + 64 * (l.i * l.n))
    × (l.place ≡ l.out_at + 64 * (l.i * l.r))
    × (l.scratch ≡ splice l.initial.scratch l.out_at (flat (rows l.i l.r (ntt_line l.initial.scratch l.phi_at l.at l.n))))
    × (length l.scratch ≡ length l.initial.scratch)
    × (length l.buffer ≡ 12288)
