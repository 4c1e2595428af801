-- `add` meets its contract.
use mathlib.Core.Path.{ap, ◌∙◌}
use Rattle.api_answers.specs.Calls.{labrador_answer}
use Rattle.shed_sums.proofs.add.Goals as goal

pub returns : goal.returns
returns c = record { answer = c.from.ensures ∙ ap labrador_answer c.try_add.ensures.answer; output_left = c.try_add.ensures.output_left }
