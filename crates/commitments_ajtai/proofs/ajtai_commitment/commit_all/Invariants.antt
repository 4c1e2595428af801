-- `commit_all` meets its contract. The invariant: the commitments to the first i vectors are stored.
use mathlib.Core.Path.{◌≡◌}
use Prim.Native.Nat.{◌+◌, ◌*◌, ◌≤◌}
use lib.ListN.{length}
use Rattle.math.specs.lists.Part.{splice}
use Rattle.spec_protocol.specs.Formulas.{dot, flat, rows}
use Rattle.ring_rq_matrix.specs.Region.{vector}
use Rattle.commitments_ajtai.proofs.ajtai_commitment.commit_all.Given as goal

abbrev pub invariant-loop-i : goal.invariant-loop-i
invariant-loop-i l =
    let i = l.i in (i ≤ l.r)
    × (l.start ≡ l.at + 64 * (i * l.n))
    × (l.place ≡ l.out_at + 64 * (i * l.count))
    × (l.out ≡ splice l.initial.out l.out_at (flat (rows i l.count (λ i k. dot l.n (vector l.matrix l.m_at l.n k) (vector l.vectors l.at l.n i)))))
    × (length l.out ≡ length l.initial.out)
