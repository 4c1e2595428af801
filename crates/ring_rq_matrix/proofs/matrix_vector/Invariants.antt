-- `matrix_vector` meets its contract. The invariant: the first k entries are stored, and the places stand at the next row and entry.
use mathlib.Core.Path.{◌≡◌}
use mathlib.Core.List.{List}
use Prim.Native.Nat.{ℕ, ◌+◌, ◌*◌, ◌≤◌}
use lib.ListN.{length}
use Rattle.math.specs.lists.Table.{table}
use Rattle.math.specs.lists.Part.{splice}
use Rattle.spec_leaves.specs.Rq.{Element}
use Rattle.ring_inner_product.specs.Run.{run}
use Rattle.spec_protocol.specs.Formulas.{dot, flat}
use Rattle.ring_rq_matrix.specs.Region.{vector}
use Rattle.ring_rq_matrix.proofs.matrix_vector.Given as goal

-- entry k of the product
abbrev pub entry_of : List ℕ → ℕ → ℕ → List ℕ → ℕ → ℕ → Element
entry_of m m-at cols v v-at k = dot cols (vector m m-at cols k) (run v v-at 64)

abbrev pub invariant-loop-k : goal.invariant-loop-k
invariant-loop-k l =
    (l.k ≤ l.rows) × (l.row_at ≡ l.m_at + 64 * (l.k * l.cols)) × (l.place ≡ l.out_at + 64 * l.k) ×
    (l.out ≡ splice l.initial.out l.out_at (flat (table l.k (entry_of l.m l.m_at l.cols l.v l.v_at)))) × (length l.out ≡ length l.initial.out)
