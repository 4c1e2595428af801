-- `columns` meets its contract. The invariant: the first k columns are stored, and the places stand at the next row of the matrix and column.
use mathlib.Core.Path.{◌≡◌}
use Prim.Native.Nat.{◌+◌, ◌*◌, ◌≤◌}
use lib.ListN.{length}
use Rattle.commitments_ajtai.specs.Spread.{ntt_t}
use Rattle.commitments_ajtai.proofs.ColumnLaws.{Columns}
use Rattle.commitments_ajtai.proofs.ntt.columns.Given as goal

abbrev pub invariant-loop-k : goal.invariant-loop-k
invariant-loop-k l =
    (l.k ≤ l.width)
    × (l.start ≡ l.m_at + 64 * (l.k * l.n))
    × (l.place ≡ l.out_at + 64 * l.k)
    × Columns l.initial.scratch l.scratch l.out_at l.r l.width l.k (ntt_t l.matrix l.m_at l.initial.scratch l.at l.n)
    × (length l.buffer ≡ 12288)
