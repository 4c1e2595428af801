-- `add_rows` meets its contract. The invariant: the first j rows are added.
use Rattle.std.proofs.Common.{◌≡◌, ◌+◌, ◌≤◌, length, get_or}
use Rattle.math.specs.lists.Table.{table}
use Rattle.math.specs.lists.Part.{splice}
use Rattle.core_jl_transpose.specs.Omega.{added}
use Rattle.core_jl_transpose.proofs.add_rows.Given as goal

abbrev pub invariant-loop-j : goal.invariant-loop-j
invariant-loop-j l =
    (l.j ≤ 256)
    × (l.out ≡ splice l.initial.out l.out_at (table l.width (λ c. added l.randomness l.pi_at l.omega_at l.width (get_or l.initial.out (l.out_at + c) 0) c l.j)))
    × (length l.out ≡ length l.initial.out)
