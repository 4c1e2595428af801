-- `four_sums` meets its contract. The invariant: the first 64·y entries are stored.
use Rattle.std.proofs.Common.{◌≡◌, ◌*◌, ◌≤◌, length}
use Rattle.math.specs.lists.Table.{table}
use Rattle.math.specs.lists.Part.{splice}
use Rattle.core_jl_tables.specs.Pairs.{four_entry}
use Rattle.core_jl_tables.proofs.pairs.four_sums.Given as goal

abbrev pub invariant-loop-y : goal.invariant-loop-y
invariant-loop-y l = (l.y ≤ 16) × (l.tables ≡ splice l.initial.tables l.at (table (64 * l.y) (four_entry l.pairs))) × (length l.tables ≡ length l.initial.tables)
