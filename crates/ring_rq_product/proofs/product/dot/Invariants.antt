-- `dot` meets its contract. The invariant: the sums are those of the first i products.
use Rattle.std.proofs.Common.{◌≤◌}
use Rattle.ring_rq_product.proofs.Halves.{Begun}
use Rattle.ring_rq_product.proofs.product.dot.Given as goal

abbrev pub invariant-loop-i : goal.invariant-loop-i
invariant-loop-i l = (l.i ≤ 64) × Begun l.x l.y l.at l.i l.h.sum l.h.upper
