-- `sum_of_lines` meets its contract. The invariant: the total is that of the first i lines, and the places stand at the next vector and factor.
use mathlib.Core.Path.{◌≡◌}
use mathlib.Core.List.{List}
use Prim.Native.Nat.{ℕ, ◌+◌, ◌*◌, ◌≤◌}
use Rattle.spec_leaves.specs.Rq.{Element}
use Rattle.spec_leaves.specs.Ring.{words}
use Rattle.ring_inner_product.specs.Run.{run}
use Rattle.spec_protocol.specs.Formulas.{◌⊗◌, sum, dot}
use Rattle.ring_rq_matrix.specs.Region.{vector}
use Rattle.ring_rq_matrix.proofs.sum_of_lines.Given as goal

-- line i of the sum, before it is weighted
abbrev pub line_of : List ℕ → ℕ → List ℕ → ℕ → ℕ → ℕ → Element
line_of phi phi-at z z_at n i = dot n (vector phi phi-at n i) (run z z_at 64)

abbrev pub invariant-loop-i : goal.invariant-loop-i
invariant-loop-i l =
    (l.i ≤ l.r) × (l.row ≡ l.phi_at + 64 * (l.i * l.n)) × (l.place ≡ l.c_at + 64 * l.i) × (l.total.coeffs ≡ words (sum l.i (λ k. line_of l.phi l.phi_at l.z l.z_at l.n k ⊗ run l.c l.c_at 64 k)))
