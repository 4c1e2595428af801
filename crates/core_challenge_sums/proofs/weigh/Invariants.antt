-- `weigh` meets its contract. The invariant: the total is that of the first k constraints, and the places stand at the next.
use mathlib.Core.Path.{◌≡◌}
use mathlib.Core.List.{List}
use Prim.Native.Nat.{ℕ, ◌+◌, ◌*◌, ◌≤◌}
use Rattle.spec_leaves.specs.Rq.{Element}
use Rattle.spec_leaves.specs.Ring.{words}
use Rattle.spec_protocol.specs.Formulas.{◌⊗◌, sum}
use Rattle.ring_inner_product.specs.Run.{run}
use Rattle.core_challenge_sums.specs.Lines.{combined_line}
use Rattle.core_challenge_sums.proofs.weigh.Given as goal

-- the line of constraint k
abbrev pub line_of : List ℕ → (at step r n : ℕ) → List ℕ → List ℕ → ℕ → Element
line_of from at step r n powers z k = combined_line from (at + step * k) r n powers z

abbrev pub invariant-loop-k : goal.invariant-loop-k
invariant-loop-k l =
    (l.k ≤ l.count)
    × (l.at ≡ l.initial.at + l.step * l.k)
    × (l.place ≡ l.weights_at + 64 * l.k)
    × (l.total.coeffs ≡ words (sum l.k (λ j. line_of l.from l.initial.at l.step l.r l.n l.powers l.z j ⊗ run l.weights l.weights_at 64 j)))
