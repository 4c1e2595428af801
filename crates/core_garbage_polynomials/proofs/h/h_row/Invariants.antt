-- `h_row` meets its contract. The invariant: the first j cells are stored.
use mathlib.Core.Path.{◌≡◌}
use lib.ListN.{length}
use Rattle.math.specs.lists.Table.{table}
use Rattle.math.specs.lists.Part.{splice}
use Rattle.spec_protocol.specs.Formulas.{flat}
use Rattle.core_garbage_polynomials.specs.Garbage.{h_of}
use Rattle.core_garbage_polynomials.proofs.h.h_row.Given as goal

abbrev pub invariant-loop-j : goal.invariant-loop-j
invariant-loop-j l =
    (l.scratch ≡ splice l.initial.scratch l.out_at (flat (table l.j (h_of l.initial.scratch l.phi_at l.s l.s_at l.n l.i)))) × (length l.scratch ≡ length l.initial.scratch)
