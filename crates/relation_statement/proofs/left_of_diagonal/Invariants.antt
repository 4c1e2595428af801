-- `left_of_diagonal` meets its contract. The invariant: the total is that of the first j terms, and the places stand at the next cell and vector.
use mathlib.Core.Path.{◌≡◌}
use Prim.Native.Nat.{◌+◌, ◌-◌, ◌*◌, ◌≤◌}
use Rattle.spec_leaves.specs.Ring.{words}
use Rattle.ring_inner_product.specs.Run.{run}
use Rattle.spec_protocol.specs.Formulas.{◌⊗◌, sum}
use Rattle.ring_rq_matrix.specs.Region.{gram}
use Rattle.relation_statement.proofs.left_of_diagonal.Given as goal

abbrev pub invariant-loop-j : goal.invariant-loop-j
invariant-loop-j l =
    (l.j ≤ l.i) × (l.place ≡ l.row + 64 * l.j) × (l.s_j ≡ l.s_at + 64 * (l.j * l.n)) × (l.total.coeffs ≡ words (sum l.j (λ k. run l.a l.row 64 k ⊗ gram l.s l.s_at l.n l.i k)))
