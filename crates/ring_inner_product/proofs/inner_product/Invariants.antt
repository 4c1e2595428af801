-- `inner_product` meets its contract. The invariant: the totals are those of the first m products, and i and j stand at the next elements.
use mathlib.Core.Path.{◌≡◌}
use Prim.Native.Nat.{◌+◌, ◌*◌, ◌≤◌}
use Rattle.ring_rq_product.specs.Product.{growth}
use Rattle.ring_inner_product.proofs.Totals.{Totals, product_of}
use Rattle.ring_inner_product.proofs.inner_product.Given as goal

abbrev pub invariant-loop-m : goal.invariant-loop-m
invariant-loop-m l =
    (l.m ≤ l.n) × (l.i ≡ l.x_at + l.x_step * l.m) × (l.j ≡ l.y_at + l.y_step * l.m) × Totals growth l.totals l.m (product_of l.x l.x_at l.x_step l.y l.y_at l.y_step)
