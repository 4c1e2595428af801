-- `add_block` meets its contract. The invariant: the sums of the first w columns are stored.
use Rattle.std.proofs.Common.{◌≡◌, ◌+◌, ◌*◌, ◌/◌, ◌%◌, ◌≤◌, length, get_or}
use Rattle.math.specs.lists.Table.{table}
use Rattle.math.specs.lists.Part.{splice}
use Rattle.core_jl_tables.specs.Tables.{terms_added, table_term}
use Rattle.core_jl_tables.proofs.tables.add_block.Given as goal

abbrev pub invariant-loop-w : goal.invariant-loop-w
invariant-loop-w l =
    (l.w ≤ 64)
    × (l.sums ≡ splice l.initial.sums l.at (table (4 * l.w) (λ p. terms_added (table_term l.tables l.places (p / 4) (p % 4)) (get_or l.initial.sums (l.at + p) 0) 4)))
    × (length l.sums ≡ length l.initial.sums)
