-- `linear_combination` meets its contract. The invariant: the totals are those of the first m scaled elements, and i stands at the next element.
use mathlib.Core.Path.{◌≡◌}
use Prim.Native.Nat.{◌+◌, ◌*◌, ◌≤◌}
use lib.ListN.{length}
use Rattle.ring_rq_product.specs.Product.{growth}
use Rattle.ring_inner_product.proofs.Totals.{Totals, scaled_of}
use Rattle.ring_inner_product.proofs.linear_combination.Given as goal

abbrev pub invariant-loop-m : goal.invariant-loop-m
invariant-loop-m l =
    (l.m ≤ l.n) × (l.i ≡ l.x_at + l.x_step * l.m) × Totals growth l.totals l.m (scaled_of l.x l.x_at l.x_step l.factors l.at) × (length l.totals ≡ 64)
