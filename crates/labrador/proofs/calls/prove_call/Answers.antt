-- `prove_call` meets its contract.
use Rattle.std.proofs.Common.{◌∙◌, ap}
use Rattle.api_answers.specs.Calls.{labrador_answer}
use Rattle.labrador.proofs.calls.prove_call.Goals as goal

pub returns : goal.returns
returns c =
    let e = c.prove.ensures in
    record { answer = c.from.ensures ∙ ap labrador_answer e.answer; output_left = e.output_left; scratch_left = e.scratch_left }
