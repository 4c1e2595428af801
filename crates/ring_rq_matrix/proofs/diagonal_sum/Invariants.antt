-- `diagonal_sum` meets its contract. The invariant: the total is that of the first i cells of the diagonal, and the place is that of the next.
use mathlib.Core.Path.{◌≡◌}
use mathlib.Core.List.{List}
use Prim.Native.Nat.{ℕ, ◌+◌, ◌*◌, ◌≤◌}
use Rattle.spec_leaves.specs.Rq.{Element}
use Rattle.spec_leaves.specs.Ring.{words}
use Rattle.ring_inner_product.specs.Run.{run}
use Rattle.spec_protocol.specs.Parameters.{triangular}
use Rattle.spec_protocol.specs.Formulas.{sum}
use Rattle.ring_rq_matrix.proofs.diagonal_sum.Given as goal

-- cell i of the diagonal
abbrev pub cell_of : List ℕ → ℕ → ℕ → Element
cell_of x x-at i = run x x-at 64 (triangular i + i)

abbrev pub invariant-loop-i : goal.invariant-loop-i
invariant-loop-i l =
    (l.i ≤ l.r) × (l.place ≡ l.x_at + 64 * (triangular l.i + l.i)) × (l.total.coeffs ≡ words (sum l.i (cell_of l.x l.x_at)))
