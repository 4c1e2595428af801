-- `add_row` meets its contract. The invariant: the first j cells are added.
use mathlib.Core.Path.{◌≡◌}
use Prim.Native.Nat.{◌+◌, ◌-◌, ◌≤◌}
use lib.ListN.{length}
use Rattle.load_constraints.specs.Sums.{terms, plus}
use Rattle.load_constraints.specs.Terms.{weight_of}
use Rattle.load_constraints.proofs.add_row.Given as goal

abbrev pub invariant-loop-j : goal.invariant-loop-j
invariant-loop-j l =
    (l.j ≤ l.i + 1)
    × (l.job ≡ plus l.initial.job l.t (terms l.initial.job l.base0 l.m l.row l.j (weight_of l.s l.s_at l.n l.i)) (terms l.initial.job l.base l.m l.row l.j (weight_of l.s l.s_at l.n l.i)))
    × (length l.job ≡ length l.initial.job)
