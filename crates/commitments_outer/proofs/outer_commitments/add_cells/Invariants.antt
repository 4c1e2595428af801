-- `add_cells` meets its contract. The invariant: the products with the digits of the first c cells are added, and `column` stands at the next cell's entries.
use mathlib.Core.Path.{◌≡◌}
use Prim.Native.Nat.{◌+◌, ◌-◌, ◌*◌, ◌≤◌}
use lib.ListN.{length}
use Rattle.math.specs.lists.Table.{table}
use Rattle.math.specs.lists.Part.{splice}
use Rattle.ring_inner_product.specs.Run.{run}
use Rattle.spec_protocol.specs.Formulas.{◌⊕◌, flat, digits_of, times}
use Rattle.ring_rq_matrix.specs.Region.{vector}
use Rattle.commitments_outer.proofs.outer_commitments.add_cells.Given as goal

abbrev pub invariant-loop-c : goal.invariant-loop-c
invariant-loop-c l =
    (l.c ≤ l.cells)
    × (l.column ≡ l.m_at + 64 * (l.c * l.parts))
    × (l.place ≡ l.initial.place + 64 * l.c)
    × (l.out ≡ splice l.initial.out l.out_at (flat (table l.rows (λ k. run l.initial.out l.out_at 64 k ⊕ times (vector l.matrix l.m_at (l.cells * l.parts))
    (digits_of l.base l.parts (table l.c (run l.from l.initial.place 64))) k))))
    × (length l.out ≡ length l.initial.out)
    × (length l.digits ≡ 2048)
    × (length l.forms ≡ 4096)
