-- `add_triangle` meets its contract. The invariant: the first i rows are added, and the cell is that of the next.
use mathlib.Core.Path.{◌≡◌}
use Prim.Native.Nat.{◌-◌, ◌≤◌}
use lib.ListN.{length}
use Rattle.spec_protocol.specs.Parameters.{triangular}
use Rattle.load_constraints.specs.Sums.{plus}
use Rattle.load_constraints.specs.Terms.{rows_of}
use Rattle.load_constraints.proofs.add_triangle.Given as goal

abbrev pub invariant-loop-i : goal.invariant-loop-i
invariant-loop-i l =
    (l.i ≤ l.r) × (l.row ≡ triangular l.i) × (l.job ≡ plus l.initial.job l.t (rows_of l.initial.job l.base0 l.m l.s l.s_at l.n l.i) (rows_of l.initial.job l.base l.m l.s l.s_at l.n l.i)) ×
    (length l.job ≡ length l.initial.job)
