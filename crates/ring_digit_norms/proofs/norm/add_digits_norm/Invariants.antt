-- `add_digits_norm` meets its contract. The invariant: the sizes are those after k digits, and the first k rows' norms are added.
use mathlib.Core.Path.{◌≡◌}
use Prim.Native.Nat.{◌+◌, ◌*◌, ◌^◌, ◌≤◌}
use Rattle.math.specs.lists.Sum.{Σ}
use Rattle.spec_leaves.specs.Norm.{norm}
use Rattle.spec_leaves.specs.Rq.{digit_row}
use Rattle.ring_rq_digits.proofs.Sizes.{sizes_after}
use Rattle.ring_digit_norms.proofs.norm.add_digits_norm.Given as goal

abbrev pub invariant-loop-k : goal.invariant-loop-k
invariant-loop-k l =
    (l.k ≤ l.parts)
    × (l.sizes ≡ sizes_after l.base l.a l.k)
    × (l.total ≡ l.sum.norm + Σ l.k (λ q. norm (digit_row l.base l.a q)))
    × (l.total ≤ l.sum.norm + 64 * l.k * 2 ^ 64)
