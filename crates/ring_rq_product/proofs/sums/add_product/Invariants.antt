-- `add_product` meets its contract. The invariant: the first 4·b sums have the kernel's added.
use Rattle.std.proofs.Common.{◌≡◌, ℕ, ◌+◌, ◌*◌, ◌≤◌, List, get_or}
use Rattle.math.specs.lists.Table.{padded}
use Rattle.ring_rq_product.specs.Product.{folded}
use Rattle.ring_rq_product.proofs.sums.add_product.Given as goal

-- sum k with the kernel's coefficient k added
unfoldable pub with_kernel : List ℕ → List ℕ → List ℕ → ℕ → ℕ
with_kernel sums x y k = get_or sums k 0 + folded x y (k + 1)

abbrev pub invariant-loop-b : goal.invariant-loop-b
invariant-loop-b l = (l.b ≤ 16) × (l.out ≡ padded 64 (4 * l.b) 0 (with_kernel l.sums l.x l.y))
