-- `left_over` meets its contract. The invariant: the sizes are those after k digits.
use mathlib.Core.Path.{◌≡◌}
use Prim.Native.Nat.{◌≤◌}
use Rattle.ring_rq_digits.proofs.Sizes.{sizes_after}
use Rattle.ring_rq_digits.proofs.digits.left_over.Given as goal

abbrev pub invariant-loop-k : goal.invariant-loop-k
invariant-loop-k l = (l.k ≤ l.parts) × (l.left ≡ sizes_after l.base l.coeffs l.k)
