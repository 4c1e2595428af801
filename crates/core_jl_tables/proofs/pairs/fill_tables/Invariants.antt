-- `fill_tables` meets its contract. The invariant: the first t tables are stored.
use Rattle.std.proofs.Common.{◌≡◌, ◌*◌, ◌≤◌, length}
use Rattle.math.specs.lists.Table.{table}
use Rattle.math.specs.lists.Part.{splice}
use Rattle.core_jl_tables.specs.Pairs.{tables_entry}
use Rattle.core_jl_tables.proofs.pairs.fill_tables.Given as goal

abbrev pub invariant-loop-t : goal.invariant-loop-t
invariant-loop-t l = (l.t ≤ 4) × (l.tables ≡ splice l.initial.tables 0 (table (1024 * l.t) (tables_entry l.randomness l.omega_at))) × (length l.tables ≡ length l.initial.tables)
