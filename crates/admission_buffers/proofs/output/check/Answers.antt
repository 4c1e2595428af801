-- `output::check` meets its contract.
use mathlib.Core.Path.{ap, ap₂, ◌∙◌}
use lib.ListN.{take, drop}
use Rattle.spec_protocol.specs.Layout.{span, transcript_sections}
use Rattle.relation_env_params.specs.Parameters.{parameters_of}
use Rattle.admission_buffers.specs.Lengths.{short_output}
use Rattle.admission_buffers.proofs.output.check.Goals as goal

pub returns : goal.returns
unfolding short_output
returns c =
    let s = c.args in
    let made = c.makes-made.ensures in
    let ss = transcript_sections (parameters_of s.params) in
    c.check_length.ensures
    ∙ ap (λ need. short_output need s.lent) (c.output_length.ensures ∙ ap₂ (λ from n. span (take n (drop from ss))) made.0 made.1)
