-- `labrador_scratch_need` meets its contract.
use Rattle.std.proofs.Common.{◌∙◌, ap}
use Rattle.spec_protocol.specs.Parameters.{parameters}
use Rattle.spec_protocol.specs.Layout.{scratch_need}
use Rattle.api_answers.specs.Calls.{labrador_need}
use Rattle.labrador.proofs.needs.labrador_scratch_need.Goals as goal

pub returns : goal.returns
returns c =
    let need = scratch_need (parameters c.args.job.now) in
    let e = c.scratch_length.ensures in
    c.from.ensures need e.words ∙ ap (λ a. labrador_need a need) e.found
