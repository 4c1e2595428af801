-- `add_row` meets its contract. The invariant: the first c sums are stored.
use Rattle.std.proofs.Common.{◌≡◌, ◌+◌, ◌≤◌, length, get_or}
use Rattle.math.specs.lists.Table.{table}
use Rattle.math.specs.lists.Part.{splice}
use Rattle.core_jl.specs.Rows.{term}
use Rattle.core_jl_transpose.specs.Omega.{carried}
use Rattle.core_jl_transpose.proofs.add_row.Given as goal

abbrev pub invariant-loop-c : goal.invariant-loop-c
invariant-loop-c l =
    (l.c ≤ l.width)
    × (l.out ≡ splice l.initial.out l.out_at (table l.c (λ i. carried (get_or l.initial.out (l.out_at + i) 0) (term (get_or l.randomness (l.row_at + i) 0) l.value))))
    × (length l.out ≡ length l.initial.out)
