-- `job::check` meets its contract.
use mathlib.Core.Path.{◌≡◌, sym, ap, ◌∙◌}
use mathlib.Core.List.{List}
use Prim.Native.Nat.{ℕ}
use Rattle.std.proofs.lemmas.Result.{err_from_is_err_and}
use Rattle.spec_leaves.specs.Answer.{Answer, fine, ◌then◌}
use Rattle.spec_protocol.specs.Parameters.{Parameters, parameters}
use Rattle.spec_protocol.specs.Layout.{layout, ranged, job_sections, job_refusal}
use Rattle.layout_section_one.specs.SectionOne.{section_one}
use Rattle.layout_section_one.proofs.Limits.{sound}
use Rattle.admission_slices.proofs.Stages.{stops_at}
use Rattle.admission_slices.proofs.job.check.Goals as goal

-- where section one is refused nothing, the answer is that of the other sections
then_sections : (J : List ℕ) (P : Parameters) {a : Answer} → fine ≡ section_one J → P ≡ parameters J
    → a ≡ (layout 3 J 31 (job_sections P) then ranged 6 J 31 (job_sections P)) → a ≡ job_refusal J
unfolding job_refusal
then_sections J P one same e =
    e
    ∙ ap (λ P. layout 3 J 31 (job_sections P) then ranged 6 J 31 (job_sections P)) same
    ∙ ap (λ a. a then layout 3 J 31 (job_sections (parameters J)) then ranged 6 J 31 (job_sections (parameters J))) one

pub sections-requires : goal.sections-requires
sections-requires c = let read = c.in_ok-params.ensures in (sound _ (sym read.found), read.read)

pub returns-in_err-params-clause-result_value : goal.returns-in_err-params-clause-result_value
unfolding job_refusal
returns-in_err-params-clause-result_value c =
    let J = c.args.job.now in
    let ss = job_sections (parameters J) in
    let p = err_from_is_err_and c.from_residual.result c.from_residual.ensures.1 in
    rw (p.1, p.2) (stops_at _ (ranged 6 J 31 ss) (stops_at _ (layout 3 J 31 ss) c.in_err-params.ensures.found))

pub returns-in_err-sections-clause-result_value : goal.returns-in_err-sections-clause-result_value
returns-in_err-sections-clause-result_value c =
    let read = c.in_ok-params.ensures in
    let p = err_from_is_err_and c.from_residual-in_err-sections.result c.from_residual-in_err-sections.ensures.1 in
    rw (p.1, p.2) (then_sections _ _ read.found read.read c.in_err-sections.ensures)

pub returns : goal.returns
returns c =
    let read = c.in_ok-params.ensures in
    record { result_value = then_sections _ _ read.found read.read c.in_ok-sections.ensures; at = read.read }
