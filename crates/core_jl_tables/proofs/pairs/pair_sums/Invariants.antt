-- `pair_sums` meets its contract. The invariant: the first 4·q entries are stored.
use Rattle.std.proofs.Common.{◌≡◌, ◌*◌, ◌≤◌, length}
use Rattle.math.specs.lists.Table.{table}
use Rattle.math.specs.lists.Part.{splice}
use Rattle.core_jl_tables.specs.Pairs.{pair_entry}
use Rattle.core_jl_tables.proofs.pairs.pair_sums.Given as goal

abbrev pub invariant-loop-q : goal.invariant-loop-q
invariant-loop-q l = (l.q ≤ 32) × (l.sums ≡ splice l.initial.sums 0 (table (4 * l.q) (pair_entry l.randomness l.omega_at))) × (length l.sums ≡ 128) × (length l.initial.sums ≡ 128)
