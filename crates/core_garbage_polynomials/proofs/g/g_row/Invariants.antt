-- `g_row` meets its contract. The invariant: the first j cells are stored.
use mathlib.Core.Path.{◌≡◌}
use lib.ListN.{length}
use Rattle.math.specs.lists.Table.{table}
use Rattle.math.specs.lists.Part.{splice}
use Rattle.spec_protocol.specs.Formulas.{flat}
use Rattle.ring_rq_matrix.specs.Region.{gram}
use Rattle.core_garbage_polynomials.proofs.g.g_row.Given as goal

abbrev pub invariant-loop-j : goal.invariant-loop-j
invariant-loop-j l =
    (l.out ≡ splice l.initial.out l.out_at (flat (table l.j (gram l.s l.s_at l.n l.i)))) ×
    (length l.out ≡ length l.initial.out)
