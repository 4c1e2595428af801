-- `join_four` meets its contract. The invariant: the first k entries are stored.
use Rattle.std.proofs.Common.{◌≡◌, ◌+◌, ◌≤◌, length, get_or}
use Rattle.math.specs.lists.Table.{table}
use Rattle.math.specs.lists.Part.{splice}
use Rattle.core_jl_tables.specs.Pairs.{lowered_sum}
use Rattle.core_jl_tables.proofs.pairs.join_four.Given as goal

abbrev pub invariant-loop-k : goal.invariant-loop-k
invariant-loop-k l =
    let k = l.k in (k ≤ 4)
    × (l.tables ≡ splice l.initial.tables l.at (table k (λ k. lowered_sum (get_or l.pairs (l.x + k) 0) (get_or l.pairs (l.y + k) 0))))
    × (length l.tables ≡ length l.initial.tables)
