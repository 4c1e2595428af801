-- `labrador_verify` meets its contract.
use mathlib.Core.Path.{ap, ◌∙◌}
use Rattle.api_answers.specs.Calls.{labrador_verdict}
use Rattle.labrador.proofs.calls.labrador_verify.Goals as goal

pub returns : goal.returns
returns c =
    let e = c.verify.ensures in
    record { answer = c.from.ensures ∙ ap labrador_verdict e.result_value; scratch_left = e.scratch_after }
