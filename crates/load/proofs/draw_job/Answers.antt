-- `draw_job` meets its contract.
use mathlib.Core.Path.{refl, ap, ◌∙◌}
use mathlib.Core.List.{[], ◌∷◌}
use native.Mathlib.Omega.{arith}
use lib.ListN.{length}
use Rattle.math.proofs.lists.Splice.{length-splice}
use Rattle.spec_protocol.specs.Layout.{span, job_sections}
use Rattle.spec_protocol.specs.Load.{job_rules}
use Rattle.relation_env_params.specs.Parameters.{parameters_of}
use Rattle.load_draw.specs.declared.Rule.TheVariants as R
use Rattle.load_draw.specs.Rules.{rules_of}
use Rattle.load_needs.specs.Given.{given}
use Rattle.load.proofs.Places.{table-drawn, job_drawn_in}
use Rattle.load.proofs.draw_job.Goals as goal

pub copy-requires : goal.copy-requires
unfolding span
copy-requires c = (omega (arith, c.requires.1), omega (arith, ap length c.section_one_words-one.ensures))

pub sections-requires : goal.sections-requires
unfolding span
sections-requires c =
    let t = c.job_sections.ensures in
    let h = c.requires in
    let long = ap (λ P. span (job_sections P)) h.0.same in
    (omega (arith, ap span t.lists, long, h.1, ap length c.copy.ensures ∙ length-splice _ _ _), omega (arith, ap span t.lists, t.spans))

pub returns : goal.returns
unfolding rules_of
returns c =
    let s = c.args in
    job_drawn_in (given s.g) (parameters_of s.params) s.seed _ s.job.now _ _ _
    c.requires.0.same
    c.section_one_words-one.ensures c.copy.ensures
    (table-drawn c.job_sections.ensures (R.Word ∷ R.Word ∷ R.Later ∷ R.Word ∷ R.Word ∷ R.Later ∷ R.Word ∷ R.Word ∷ R.Word ∷ R.Word ∷ [])
    job_rules refl s.seed _ _ 31 _ c.sections.ensures)
