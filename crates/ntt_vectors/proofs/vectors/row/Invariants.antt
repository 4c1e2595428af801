-- `row` meets its contract. The invariant: the first k inner products are stored, and the places stand at the next.
use mathlib.Core.Path.{◌≡◌}
use Prim.Native.Nat.{◌+◌, ◌*◌, ◌≤◌}
use lib.ListN.{length}
use Rattle.math.specs.lists.Table.{table}
use Rattle.math.specs.lists.Part.{splice}
use Rattle.spec_protocol.specs.Formulas.{flat}
use Rattle.ntt_vectors.specs.NttForm.{ntt_row}
use Rattle.ntt_vectors.proofs.vectors.row.Given as goal

abbrev pub invariant-loop-k : goal.invariant-loop-k
invariant-loop-k l =
    (l.k ≤ l.count) × (l.place ≡ l.at + 192 * (l.k * l.n)) × (l.to ≡ l.out_at + 64 * l.k) ×
    (l.scratch ≡ splice l.initial.scratch l.out_at (flat (table l.k (ntt_row l.v l.initial.scratch l.at l.n)))) × (length l.scratch ≡ length l.initial.scratch)
