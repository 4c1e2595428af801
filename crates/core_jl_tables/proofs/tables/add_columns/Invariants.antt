-- `add_columns` meets its contract. The invariant: the sums of the first m blocks of 64 columns are stored.
use Rattle.std.proofs.Common.{◌≡◌, ◌*◌, ◌≤◌, length, get_or}
use Rattle.math.specs.lists.Table.{table}
use Rattle.math.specs.lists.Part.{splice}
use Rattle.core_jl_tables.specs.Pairs.{row_term}
use Rattle.core_jl_tables.specs.Tables.{terms_added}
use Rattle.core_jl_tables.proofs.tables.add_columns.Given as goal

abbrev pub invariant-loop-m : goal.invariant-loop-m
invariant-loop-m l =
    (l.m ≤ l.n)
    × (l.sums ≡ splice l.initial.sums 0 (table (256 * l.m) (λ p. terms_added (row_term l.randomness l.row_at (64 * l.n) l.tables p) (get_or l.initial.sums p 0) 4)))
    × (length l.sums ≡ length l.initial.sums)
    × (length l.places ≡ 256)
