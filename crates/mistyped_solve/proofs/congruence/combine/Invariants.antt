-- `combine` meets its contract. The loop's invariant: the two congruences at hand have the solutions of the two handed in.
use Rattle.mistyped_solve.proofs.Division.{Carried}
use Rattle.mistyped_solve.proofs.congruence.combine.Given as goal

abbrev pub invariant-loop-lower : goal.invariant-loop-lower
invariant-loop-lower l = Carried l.fn.first l.fn.second l.upper l.lower

abbrev pub decreases-loop-lower : goal.decreases-loop-lower
decreases-loop-lower l = l.lower.factor
