-- `join_row` meets its contract. The invariant: the first 4·x entries are stored.
use Rattle.std.proofs.Common.{◌≡◌, ◌+◌, ◌*◌, ◌%◌, ◌≤◌, length, get_or}
use Rattle.math.specs.lists.Table.{table}
use Rattle.math.specs.lists.Part.{splice}
use Rattle.core_jl_tables.specs.Pairs.{lowered_sum}
use Rattle.core_jl_tables.proofs.pairs.join_row.Given as goal

abbrev pub invariant-loop-x : goal.invariant-loop-x
invariant-loop-x l =
    (l.x ≤ 16) × (l.tables ≡ splice l.initial.tables l.at (table (4 * l.x) (λ q. lowered_sum (get_or l.pairs q 0) (get_or l.pairs (l.y + q % 4) 0)))) × (length l.tables ≡ length l.initial.tables)
