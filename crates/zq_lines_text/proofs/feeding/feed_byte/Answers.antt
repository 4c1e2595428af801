-- `feed_byte` meets its contract.
use borrow.Author.Tests.{eq-eqb, ne_eqb}
use Rattle.zq_lines_text.proofs.Runs.{written_none}
use Rattle.zq_lines_text.proofs.feeding.feed_byte.Goals as goal

pub returns-then-b-eq10 : goal.returns-then-b-eq10
returns-then-b-eq10 c = rw (eq-eqb _ _ c.if-b-eq10.true) record { state_value = c.start.ensures; written = c.put_answer.ensures }

pub returns-else-b-eq10 : goal.returns-else-b-eq10
returns-else-b-eq10 c = rw (ne_eqb _ _ c.if-b-eq10.false) record { state_value = c.step.ensures; written = written_none _ _ }
