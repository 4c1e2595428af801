-- `reverse` meets its contract. The invariant: the first i entries are the definition's, and the later ones zero.
use Rattle.std.proofs.Common.{◌≡◌, ◌-◌, ◌≤◌}
use Rattle.math.specs.lists.Table.{padded}
use Rattle.spec_leaves.specs.Rq.{coeff}
use Rattle.ring_rq_product.proofs.product.reverse.Given as goal

abbrev pub invariant-loop-i : goal.invariant-loop-i
invariant-loop-i l = (l.i ≤ 64) × (l.out ≡ padded 64 l.i 0 (λ j. coeff l.b (63 - j)))
