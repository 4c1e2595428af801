-- `add_scaled` meets its contract. The invariant: the first k sums have their product's halves added.
use Rattle.std.proofs.Common.{◌≡◌, ℕ, ◌+◌, ◌*◌, ◌/◌, ◌%◌, ◌≤◌, List, length, get_or}
use Rattle.math.specs.lists.Table.{table}
use Rattle.math.specs.lists.Part.{splice}
use Rattle.spec_leaves.specs.Zq.{lack_Q}
use Rattle.ring_rq_product.proofs.sums.add_scaled.Given as goal

-- a sum with the halves of a product added
unfoldable pub halves : ℕ → ℕ → ℕ
halves sum product = sum + (product % 4294967296 + product / 4294967296 * lack_Q)

-- sum k with the halves of its product added
abbrev pub folded : (sums words : List ℕ) (at c : ℕ) → ℕ → ℕ
folded sums words at c k = halves (get_or sums k 0) (get_or words (at + k) 0 * c)

abbrev pub invariant-loop-k : goal.invariant-loop-k
invariant-loop-k l =
    (l.k ≤ 64) × (l.sums ≡ splice l.initial.sums 0 (table l.k (folded l.initial.sums l.words l.at l.factor))) × (length l.sums ≡ length l.initial.sums)
