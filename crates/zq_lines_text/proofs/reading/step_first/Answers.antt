-- `step_first` meets its contract.
use mathlib.Core.Path.{◌∙◌, sym, ap}
use borrow.Author.Tests.{eq-eqb, ne_eqb}
use Rattle.zq_lines_text.specs.Reading.{stepped, with}
use Rattle.zq_lines_text.specs.declared.reading.State.TheVariants.{First}
use Rattle.zq_lines_text.proofs.reading.step_first.Goals as goal

pub returns-then-w-eq0 : goal.returns-then-w-eq0
unfolding stepped
returns-then-w-eq0 c = simp (eq-eqb _ _ c.if-b-eq32.true, eq-eqb _ _ c.if-w-eq0.true)

pub returns-then-b-eq32 : goal.returns-then-b-eq32
unfolding stepped
returns-then-b-eq32 c = simp (eq-eqb _ _ c.if-b-eq32.true, ne_eqb _ _ c.if-w-eq0.false)

pub returns-in-Some : goal.returns-in-Some
unfolding stepped
returns-in-Some c = simp (ne_eqb _ _ c.if-b-eq32.false) (ap (with First) (sym c.in-Some.is ∙ c.extend.ensures))

pub returns-in-None : goal.returns-in-None
unfolding stepped
returns-in-None c = simp (ne_eqb _ _ c.if-b-eq32.false) (ap (with First) (sym c.in-None.is ∙ c.extend.ensures))
