-- `add_products` meets its contract. The invariant: the first k inner products are added, and `row` stands at the next row's part.
use mathlib.Core.Path.{◌≡◌}
use Prim.Native.Nat.{◌+◌, ◌-◌, ◌*◌, ◌≤◌}
use lib.ListN.{length}
use Rattle.math.specs.lists.Table.{table}
use Rattle.math.specs.lists.Part.{splice}
use Rattle.ring_inner_product.specs.Run.{run}
use Rattle.spec_protocol.specs.Formulas.{◌⊕◌, dot, flat}
use Rattle.commitments_outer.proofs.outer_commitments.add_products.Given as goal

abbrev pub invariant-loop-k : goal.invariant-loop-k
invariant-loop-k l =
    let k = l.k in (k ≤ l.rows)
    × (l.row ≡ l.m_at + l.m_step * k)
    × (l.place ≡ l.out_at + 64 * k)
    × (l.out ≡ splice l.initial.out l.out_at (flat (table k (λ k. run l.initial.out l.out_at 64 k ⊕ dot l.n (run l.matrix (l.m_at + l.m_step * k) 64) (run l.v 0 64)))))
    × (length l.out ≡ length l.initial.out)
