-- `four` meets its contract. The invariant: each pair of sums is that of the first i products from its place on.
use Rattle.std.proofs.Common.{◌+◌, ◌≤◌}
use Rattle.ring_rq_product.proofs.Halves.{Begun}
use Rattle.ring_rq_product.proofs.product.four.Given as goal

abbrev pub invariant-loop-i : goal.invariant-loop-i
invariant-loop-i l =
    (l.i ≤ 64) × Begun l.x l.y l.at l.i l.a.sum l.a.upper × Begun l.x l.y (l.at + 1) l.i l.b.sum l.b.upper × Begun l.x l.y (l.at + 2) l.i l.c.sum l.c.upper × Begun l.x l.y (l.at + 3) l.i
    l.d.sum l.d.upper
