-- `store_cells` meets its contract. The invariant: the digits of the first c cells are stored.
use mathlib.Core.Path.{◌≡◌}
use mathlib.Core.List.{List}
use Prim.Native.Nat.{ℕ, ◌+◌, ◌-◌, ◌*◌, ◌≤◌}
use lib.ListN.{length}
use Rattle.math.specs.lists.Table.{table, cat}
use Rattle.math.specs.lists.Part.{splice}
use Rattle.spec_leaves.specs.Rq.{Element}
use Rattle.ring_inner_product.specs.Run.{run}
use Rattle.spec_protocol.specs.Formulas.{flat, digit_element}
use Rattle.verify_many_windows.proofs.digits.store_cells.Given as goal

-- the digits of cell i
abbrev pub cell-digits : (base parts : ℕ) → List ℕ → ℕ → ℕ → List Element
cell-digits base parts from at i = table parts (digit_element base (run from at 64 i))

abbrev pub invariant-loop-c : goal.invariant-loop-c
invariant-loop-c l =
    (l.c ≤ l.cells)
    × (l.at ≡ l.initial.at + 64 * l.c)
    × (l.place ≡ l.to_at + 64 * (l.c * l.parts))
    × (l.to ≡ splice l.initial.to l.to_at (flat (cat l.c (cell-digits l.base l.parts l.from l.initial.at))))
    × (length l.to ≡ length l.initial.to)
