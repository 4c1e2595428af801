-- `add_column` meets its contract. The invariant: the first k sums are stored.
use Rattle.std.proofs.Common.{◌≡◌, ◌+◌, ◌≤◌, length, get_or}
use Rattle.math.specs.lists.Table.{table}
use Rattle.math.specs.lists.Part.{splice}
use Rattle.core_jl_tables.specs.Tables.{terms_added, table_term}
use Rattle.core_jl_tables.proofs.tables.add_column.Given as goal

abbrev pub invariant-loop-k : goal.invariant-loop-k
invariant-loop-k l =
    let k = l.k in (k ≤ 4)
    × (l.sums ≡ splice l.initial.sums l.at (table k (λ k. terms_added (table_term l.tables l.places l.w k) (get_or l.initial.sums (l.at + k) 0) 4)))
    × (length l.sums ≡ length l.initial.sums)
