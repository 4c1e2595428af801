-- `smallest_for` meets its contract. The loop's invariant: the congruence at hand stands for the rows taken.
use Prim.Native.Nat.{◌≤◌}
use Rattle.mistyped_solve.proofs.Taken.{Taken}
use Rattle.mistyped_solve.proofs.rows.smallest_for.Given as goal

abbrev pub invariant-loop-k : goal.invariant-loop-k
invariant-loop-k l = (l.k ≤ l.rows) × Taken l.randomness l.at l.width l.lacking l.k l.taken
