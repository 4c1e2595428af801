-- `reduce` meets its contract. The invariant: the first k sums are reduced.
use Rattle.std.proofs.Common.{◌≡◌, ◌%◌, ◌≤◌, get_or}
use Rattle.math.specs.lists.Table.{padded}
use Rattle.spec_leaves.specs.Zq.{Q}
use Rattle.ring_rq_product.proofs.sums.reduce.Given as goal

abbrev pub invariant-loop-k : goal.invariant-loop-k
invariant-loop-k l = (l.k ≤ 64) × (l.out ≡ padded 64 l.k 0 (λ j. get_or l.sums j 0 % Q))
