-- `extend` meets its contract. The invariant: the first 64 + m entries are the definition's, and the later ones zero.
use Rattle.std.proofs.Common.{◌≡◌, ◌+◌, ◌≤◌}
use Rattle.math.specs.lists.Table.{padded}
use Rattle.ring_rq_product.specs.Product.{extended_coeff}
use Rattle.ring_rq_product.proofs.product.extend.Given as goal

abbrev pub invariant-loop-m : goal.invariant-loop-m
invariant-loop-m l = (l.m ≤ 64) × (l.out ≡ padded 128 (64 + l.m) 0 (extended_coeff l.a))
