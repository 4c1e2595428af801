-- `four_places` meets its contract. The invariant: the first w places are stored.
use Rattle.std.proofs.Common.{◌≡◌, ◌+◌, ◌≤◌, length}
use Rattle.math.specs.lists.Table.{table}
use Rattle.math.specs.lists.Part.{splice}
use Rattle.core_jl_tables.specs.Pairs.{four_place}
use Rattle.core_jl_tables.proofs.tables.four_places.Given as goal

abbrev pub invariant-loop-w : goal.invariant-loop-w
invariant-loop-w l = (l.w ≤ 64) × (l.places ≡ splice l.initial.places l.to (table l.w (λ j. four_place l.randomness (l.at + j) l.step))) × (length l.places ≡ length l.initial.places)
