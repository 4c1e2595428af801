-- `add_products` meets its contract. The invariant: modulo Q the total is the sum and the first k products, and each product adds less than 2^39.
use mathlib.Core.Path.{◌≡◌}
use Prim.Native.Nat.{◌+◌, ◌-◌, ◌*◌, ◌%◌, ◌≤◌, ◌^◌}
use lib.ListN.{get_or}
use Rattle.math.specs.lists.Sum.{Σ}
use Rattle.spec_leaves.specs.Zq.{Q}
use Rattle.verifier_constant_terms.proofs.numbers.add_products.Given as goal

abbrev pub invariant-loop-k : goal.invariant-loop-k
invariant-loop-k l =
    (l.k ≤ l.count) × (l.total % Q ≡ (l.sum + Σ l.k (λ m. get_or l.x (l.x_at + m) 0 * get_or l.y (l.y_at + m) 0)) % Q) × (l.total ≤ l.sum + l.k * 2 ^ 39)
