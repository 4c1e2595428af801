-- `add_products` meets its contract. The invariant: the products with the weights of the first b blocks are added.
use mathlib.Core.Path.{◌≡◌}
use Prim.Native.Nat.{ℕ, ◌-◌, ◌*◌}
use lib.ListN.{length}
use Rattle.math.specs.lists.Table.{table}
use Rattle.math.specs.lists.Part.{splice}
use Rattle.ring_inner_product.specs.Run.{run}
use Rattle.spec_protocol.specs.Formulas.{flat}
use Rattle.load_constraints.specs.Products.{with_terms}
use Rattle.load_constraints.proofs.products.add_products.Given as goal

-- how many weights the first b blocks have: 32 each, but the last may have fewer
abbrev pub taken : (m b : ℕ) → ℕ
taken m b = 32 * b - (32 * b - m)

abbrev pub invariant-loop-b : goal.invariant-loop-b
invariant-loop-b l =
    (l.job ≡ splice l.initial.job l.to (flat (table l.count (with_terms l.initial.job l.base l.m l.to 0 (taken l.m l.b) (run l.s l.s_at 64)))))
    × (length l.job ≡ length l.initial.job)
