-- `labrador_output_need` meets its contract.
use Rattle.std.proofs.Common.{◌∙◌, ap}
use Rattle.spec_protocol.specs.Parameters.{parameters}
use Rattle.spec_protocol.specs.Layout.{span, transcript_sections}
use Rattle.api_answers.specs.Calls.{labrador_need}
use Rattle.labrador.proofs.needs.labrador_output_need.Goals as goal

pub returns : goal.returns
returns c =
    let need = span (transcript_sections (parameters c.args.job.now)) in
    let e = c.output_length.ensures in
    c.from.ensures need e.words ∙ ap (λ a. labrador_need a need) e.found
