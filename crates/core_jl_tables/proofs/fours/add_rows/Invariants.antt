-- `add_rows` meets its contract. The invariant: the first 16·g rows are summed.
use Rattle.std.proofs.Common.{◌≡◌, ◌*◌, ◌≤◌, length}
use Rattle.core_jl_tables.specs.Fours.{Summed}
use Rattle.core_jl_tables.proofs.fours.add_rows.Given as goal

abbrev pub invariant-loop-g : goal.invariant-loop-g
invariant-loop-g l =
    (l.g ≤ 16) × Summed l.randomness l.pi_at l.omega_at (64 * l.n) (16 * l.g) l.sums × (length l.sums ≡ 16384) × (length l.tables ≡ 4096)
