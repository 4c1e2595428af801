-- `take_row_by` meets its contract. The invariant: the first j entries of both are the definition's, and the later ones zero.
use Rattle.ring_rq_digits.proofs.Row.{SoFar}
use Rattle.ring_rq_digits.proofs.digits.take_row_by.Given as goal

abbrev pub invariant-loop-j : goal.invariant-loop-j
invariant-loop-j g l = SoFar l.base l.a l.sizes l.row l.next l.j
