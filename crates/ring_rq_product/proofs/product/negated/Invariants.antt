-- `negated` meets its contract. The invariant: the first m entries are the definition's, and the later ones zero.
use Rattle.std.proofs.Common.{◌≡◌, ◌≤◌}
use Rattle.math.specs.lists.Table.{padded}
use Rattle.ring_rq_product.specs.Product.{extended_coeff}
use Rattle.ring_rq_product.proofs.product.negated.Given as goal

abbrev pub invariant-loop-m : goal.invariant-loop-m
invariant-loop-m l = (l.m ≤ 64) × (l.out ≡ padded 128 l.m 0 (extended_coeff l.a))
