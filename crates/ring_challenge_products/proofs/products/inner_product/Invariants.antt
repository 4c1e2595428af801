-- `inner_product` meets its contract. The invariant: the totals are those of the first i products, and j stands at the next element.
use mathlib.Core.Path.{◌≡◌}
use mathlib.Core.List.{List}
use Prim.Native.Nat.{ℕ, ◌+◌, ◌*◌, ◌≤◌, ◌^◌}
use lib.ListN.{length}
use Rattle.math.specs.lists.Part.{part}
use Rattle.ring_inner_product.proofs.Totals.{Totals}
use Rattle.ring_challenge_products.specs.Powers.{row_product}
use Rattle.ring_challenge_products.proofs.products.inner_product.Given as goal

-- product i, not reduced
abbrev pub product_of : (powers x : List ℕ) (x-at x-step : ℕ) → ℕ → List ℕ
product_of powers x x-at x-step i = row_product powers i (part x (x-at + x-step * i) 64)

abbrev pub invariant-loop-i : goal.invariant-loop-i
invariant-loop-i l =
    (l.i ≤ l.r) × (l.j ≡ l.x_at + l.x_step * l.i) × Totals (2 ^ 39) l.totals l.i (product_of l.powers l.x l.x_at l.x_step) × (length l.totals ≡ 64)
