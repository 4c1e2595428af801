-- `add_products` meets its contract. The invariant: the first 4·b sums are stored.
use mathlib.Core.Path.{◌≡◌}
use mathlib.Core.List.{List}
use Prim.Native.Nat.{ℕ, ◌+◌, ◌*◌, ◌≤◌}
use lib.ListN.{get_or}
use Rattle.math.specs.lists.Table.{padded}
use Rattle.ring_digit_products.specs.Small.{products_sum}
use Rattle.ring_digit_products.proofs.small.add_products.Given as goal

-- entry k
abbrev pub entry : (sums x y : List ℕ) (at start k : ℕ) → ℕ
entry sums x y at start k = get_or sums k 0 + (start + products_sum x y (at + k + 1))

abbrev pub invariant-loop-b : goal.invariant-loop-b
invariant-loop-b l = (l.b ≤ 16) × (l.out ≡ padded 64 (4 * l.b) 0 (entry l.sums l.x l.y l.at l.start))
