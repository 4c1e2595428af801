-- `decompose` meets its contract. The invariant: the sizes are those after k digits, and the first k rows have them.
use mathlib.Core.Path.{◌≡◌}
use Prim.Native.Nat.{◌≤◌}
use Rattle.math.specs.lists.Table.{padded}
use Rattle.spec_leaves.specs.Rq.{rzero, digit_row}
use Rattle.ring_rq_digits.proofs.Sizes.{sizes_after}
use Rattle.ring_rq_digits.proofs.digits.decompose.Given as goal

abbrev pub invariant-loop-k : goal.invariant-loop-k
invariant-loop-k l =
    (l.k ≤ l.parts) × (l.sizes ≡ sizes_after l.base l.coeffs l.k) × (l.rows ≡ padded 32 l.k rzero (digit_row l.base l.coeffs))
