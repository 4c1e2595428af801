-- `inner_product` meets its contract. The invariant: the totals are those of the first m products.
use Prim.Native.Nat.{◌≤◌, ◌^◌}
use Rattle.ring_inner_product.proofs.Totals.{Totals, product_of}
use Rattle.ring_digit_products.proofs.products.inner_product.Given as goal

abbrev pub invariant-loop-m : goal.invariant-loop-m
invariant-loop-m l = (l.m ≤ l.n) × Totals (2 ^ 55) l.totals l.m (product_of l.matrix l.at 64 l.v 0 64)
