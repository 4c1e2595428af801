-- `quadratic` meets its contract. The invariant: the total is that of the first i rows, and the place stands at the next row.
use mathlib.Core.Path.{◌≡◌}
use mathlib.Core.List.{List}
use Prim.Native.Nat.{ℕ, ◌+◌, ◌-◌, ◌*◌, ◌≤◌}
use Rattle.spec_leaves.specs.Rq.{Element}
use Rattle.spec_leaves.specs.Ring.{words}
use Rattle.ring_inner_product.specs.Run.{run}
use Rattle.spec_protocol.specs.Parameters.{triangular}
use Rattle.spec_protocol.specs.Formulas.{sum}
use Rattle.ring_rq_matrix.specs.Region.{gram, mirrored_row}
use Rattle.relation_statement.proofs.quadratic.Given as goal

-- row i of the sum
abbrev pub row_of : List ℕ → ℕ → List ℕ → ℕ → ℕ → ℕ → Element
row_of a a_at s s-at n i = mirrored_row i (λ j. run a a_at 64 (triangular i + j)) (gram s s-at n i)

abbrev pub invariant-loop-i : goal.invariant-loop-i
invariant-loop-i l =
    (l.i ≤ l.r) × (l.row ≡ l.a_at + 64 * triangular l.i) × (l.total.coeffs ≡ words (sum l.i (row_of l.a l.a_at l.s l.s_at l.n)))
