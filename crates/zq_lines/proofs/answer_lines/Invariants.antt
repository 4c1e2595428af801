use Rattle.zq_lines_text.specs.Reading.{Bounded}
use Rattle.zq_lines.proofs.answer_lines.Given as goal

abbrev pub invariant-loop : goal.invariant-loop
invariant-loop g l = Bounded l.state
