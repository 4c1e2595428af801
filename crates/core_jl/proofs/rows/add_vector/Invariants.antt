-- `add_vector` meets its contract. The invariant: the first 4·q sums have their row added.
use mathlib.Core.Path.{◌≡◌}
use Prim.Native.Nat.{◌*◌}
use lib.ListN.{length}
use Rattle.math.specs.lists.Table.{table}
use Rattle.math.specs.lists.Part.{splice}
use Rattle.core_jl.specs.Rows.{row_added}
use Rattle.core_jl.proofs.rows.add_vector.Given as goal

abbrev pub invariant-loop-q : goal.invariant-loop-q
invariant-loop-q l =
    (l.sums ≡ splice l.initial.sums 0 (table (4 * l.q) (row_added l.initial.sums l.randomness l.at l.witness l.wt l.width))) × (length l.sums ≡ length l.initial.sums)
