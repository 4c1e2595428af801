-- `sum_of_weighted` meets its contract. The invariant: the total is that of the first i rows, and the places stand at the next row and factor.
use mathlib.Core.Path.{◌≡◌}
use mathlib.Core.List.{List}
use Prim.Native.Nat.{ℕ, ◌+◌, ◌*◌, ◌≤◌}
use Rattle.spec_leaves.specs.Rq.{Element}
use Rattle.spec_leaves.specs.Ring.{words}
use Rattle.ring_inner_product.specs.Run.{run}
use Rattle.spec_protocol.specs.Parameters.{triangular}
use Rattle.spec_protocol.specs.Formulas.{◌⊗◌, sum}
use Rattle.ring_rq_matrix.specs.Region.{mirrored_row}
use Rattle.ring_rq_matrix.proofs.sum_of_weighted.Given as goal

-- row i of the sum, before it is weighted
abbrev pub row_of : List ℕ → ℕ → List ℕ → ℕ → ℕ → Element
row_of x x-at c c-at i = mirrored_row i (λ j. run x x-at 64 (triangular i + j)) (run c c-at 64)

abbrev pub invariant-loop-i : goal.invariant-loop-i
invariant-loop-i l =
    (l.i ≤ l.r) × (l.row ≡ l.x_at + 64 * triangular l.i) × (l.place ≡ l.c_at + 64 * l.i) × (l.total.coeffs ≡ words (sum l.i (λ k. row_of l.x l.x_at l.c l.c_at k ⊗ run l.c l.c_at 64 k)))
