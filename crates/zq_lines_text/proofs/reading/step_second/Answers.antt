-- `step_second` meets its contract.
use mathlib.Core.Path.{◌∙◌, sym, ap}
use Rattle.zq_lines_text.specs.Reading.{stepped, with}
use Rattle.zq_lines_text.specs.declared.reading.State.TheVariants.{Second}
use Rattle.zq_lines_text.proofs.reading.step_second.Goals as goal

pub returns-in-Some : goal.returns-in-Some
unfolding stepped
returns-in-Some c = ap (with (Second c.args.a)) (sym c.in-Some.is ∙ c.extend.ensures)

pub returns-in-None : goal.returns-in-None
unfolding stepped
returns-in-None c = ap (with (Second c.args.a)) (sym c.in-None.is ∙ c.extend.ensures)
