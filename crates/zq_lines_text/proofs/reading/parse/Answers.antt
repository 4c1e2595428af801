-- `parse` meets its contract.
use mathlib.Core.Path.{◌∙◌}
use borrow.Author.Rules.{rules}
use borrow.Author.Tests.{eq-eqb, ne_eqb}
use Rattle.zq_lines_text.specs.Reading.{parsed}
use Rattle.zq_lines_text.proofs.reading.parse.Goals as goal

pub returns-in-First : goal.returns-in-First
unfolding parsed
returns-in-First c = search rules

pub returns-then-w-eq0 : goal.returns-then-w-eq0
unfolding parsed
returns-then-w-eq0 c = rw (c.in-Second.is, eq-eqb _ _ c.if-w-eq0.true)

pub returns-else-w-eq0 : goal.returns-else-w-eq0
unfolding parsed
returns-else-w-eq0 c = c.pair.ensures ∙ rw (c.in-Second.is, ne_eqb _ _ c.if-w-eq0.false)

pub returns-in-Bad : goal.returns-in-Bad
unfolding parsed
returns-in-Bad c = search rules
