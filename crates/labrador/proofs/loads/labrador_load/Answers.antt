-- `labrador_load` meets its contract.
use mathlib.Core.Path.{ap, ◌∙◌}
use Rattle.api_answers.specs.Calls.{labrador_answer}
use Rattle.labrador.proofs.loads.labrador_load.Goals as goal

pub returns : goal.returns
returns c =
    let e = c.load.ensures in
    record {
      answer = c.from.ensures ∙ ap labrador_answer e.result_value;
      job_left = e.job_after;
      witness_left = e.witness_after;
      randomness_left = e.randomness_after;
    }
