-- `column` meets its contract. The invariant: the first k inner products are stored, and the places stand at the next.
use mathlib.Core.Path.{◌≡◌}
use Prim.Native.Nat.{◌+◌, ◌*◌, ◌≤◌}
use lib.ListN.{length}
use Rattle.ntt_vectors.specs.NttForm.{ntt_row}
use Rattle.commitments_ajtai.specs.Spread.{spread}
use Rattle.commitments_ajtai.proofs.ntt.column.Given as goal

abbrev pub invariant-loop-k : goal.invariant-loop-k
invariant-loop-k l =
    (l.k ≤ l.count)
    × (l.place ≡ l.at + 192 * (l.k * l.n))
    × (l.to ≡ l.out_at + l.step * l.k)
    × (l.scratch ≡ spread l.initial.scratch l.out_at l.step l.k (ntt_row l.v l.initial.scratch l.at l.n))
    × (length l.scratch ≡ length l.initial.scratch)
