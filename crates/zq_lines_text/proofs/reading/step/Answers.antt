-- `step` meets its contract.
use mathlib.Core.Path.{◌∙◌, sym, ap, subst}
use Rattle.zq_lines_text.specs.Reading.{stepped, Bounded}
use Rattle.zq_lines_text.proofs.reading.step.Goals as goal

pub step_first-requires : goal.step_first-requires
step_first-requires c = subst Bounded c.in-First.is c.requires

pub step_second-requires : goal.step_second-requires
step_second-requires c = subst Bounded c.in-Second.is c.requires

pub returns-in-First : goal.returns-in-First
returns-in-First c = c.step_first.ensures ∙ ap (λ s. stepped s c.args.b) (sym c.in-First.is)

pub returns-in-Second : goal.returns-in-Second
returns-in-Second c = c.step_second.ensures ∙ ap (λ s. stepped s c.args.b) (sym c.in-Second.is)

pub returns-in-Bad : goal.returns-in-Bad
unfolding stepped
returns-in-Bad c = ap (λ s. stepped s c.args.b) (sym c.in-Bad.is)
