-- `raise` meets its contract. The invariant: the first t sums have theirs added.
use mathlib.Core.Path.{◌≡◌}
use lib.ListN.{length}
use Rattle.math.specs.lists.Table.{table}
use Rattle.math.specs.lists.Part.{splice}
use Rattle.core_jl.specs.Rows.{raised}
use Rattle.core_jl.proofs.rows.raise.Given as goal

abbrev pub invariant-loop-t : goal.invariant-loop-t
invariant-loop-t l = (l.sums ≡ splice l.initial.sums l.j (table l.t (raised l.initial.sums l.j l.rows))) × (length l.sums ≡ length l.initial.sums)
