-- `randomness::check` meets its contract.
use mathlib.Core.Path.{sym, ap, ◌∙◌}
use lib.ListN.{take}
use Rattle.spec_protocol.specs.Layout.{randomness_sections, randomness_refusal}
use Rattle.layout_sections.proofs.Spans.{take-listed}
use Rattle.relation_env_params.specs.Parameters.{parameters_of}
use Rattle.admission_slices.proofs.Found.{examined}
use Rattle.admission_slices.proofs.randomness.check.Goals as goal

pub returns : goal.returns
unfolding randomness_refusal
returns c =
    let all = c.randomness_sections-sections in
    let handed = c.handed in
    examined 7 8 _ 0
    (sym (take-listed handed.result all.result)
    ∙ ap (take handed.result) all.ensures.lists
    ∙ ap (λ m. take m (randomness_sections (parameters_of c.args.params))) handed.ensures.0)
    c.check.ensures
