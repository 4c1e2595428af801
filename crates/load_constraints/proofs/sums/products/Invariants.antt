-- `products` meets its contract. The invariant: the first k elements are stored, and the places stand at the next.
use mathlib.Core.Path.{◌≡◌}
use Prim.Native.Nat.{◌+◌, ◌-◌, ◌*◌, ◌≤◌}
use lib.ListN.{length}
use Rattle.math.specs.lists.Table.{table}
use Rattle.math.specs.lists.Part.{splice}
use Rattle.spec_protocol.specs.Views.{element_at}
use Rattle.spec_protocol.specs.Formulas.{◌⊕◌, flat}
use Rattle.load_constraints.specs.Sums.{term}
use Rattle.load_constraints.proofs.sums.products.Given as goal

abbrev pub invariant-loop-k : goal.invariant-loop-k
invariant-loop-k l =
    (l.k ≤ l.count)
    × (l.at ≡ l.base + 64 * (l.k * l.m + l.cell))
    × (l.place ≡ l.to + 64 * l.k)
    × (l.job ≡ splice l.initial.job l.to (flat (table l.k (λ i. element_at l.initial.job l.to i ⊕ term l.initial.job l.base l.m l.cell l.weight.coeffs i))))
    × (length l.job ≡ length l.initial.job)
