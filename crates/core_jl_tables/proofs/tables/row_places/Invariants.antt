-- `row_places` meets its contract. The invariant: the places of the first 4·t rows are stored.
use Rattle.std.proofs.Common.{◌≡◌, ◌*◌, ◌≤◌, length}
use Rattle.math.specs.lists.Table.{table}
use Rattle.math.specs.lists.Part.{splice}
use Rattle.core_jl_tables.specs.Tables.{place_entry}
use Rattle.core_jl_tables.proofs.tables.row_places.Given as goal

abbrev pub invariant-loop-t : goal.invariant-loop-t
invariant-loop-t l = (l.t ≤ 4) × (l.places ≡ splice l.initial.places 0 (table (64 * l.t) (place_entry l.randomness l.at l.step))) × (length l.places ≡ length l.initial.places)
