-- The length of a transcript, of what is found of the job.
use mathlib.Core.Path.{◌≡◌, ap, ◌∙◌}
use mathlib.Core.List.{List}
use Prim.Native.Nat.{ℕ}
use Rattle.spec_leaves.specs.declared.answers.Refusal.{Refusal}
use Rattle.spec_leaves.specs.Answer.{fine, of_refusal, result_of}
use Rattle.spec_protocol.specs.Parameters.{Parameters, parameters}
use Rattle.spec_protocol.specs.Layout.{span, transcript_sections, job_refusal}
use Rattle.admission_slices.proofs.Fit.{refusal_none}

-- of a job that is refused
pub length_none : (J : List ℕ) (r : Refusal) → of_refusal r ≡ job_refusal J → 0 ≡ result_of (job_refusal J) (span (transcript_sections (parameters J))) 0
length_none J r e =
    let n = span (transcript_sections (parameters J)) in
    refusal_none r n 0 ∙ ap (λ a. result_of a n 0) e

-- of a job that is refused nothing
pub length_found : (J : List ℕ) (P : Parameters) (length : ℕ) → fine ≡ job_refusal J → P ≡ parameters J → length ≡ span (transcript_sections P)
    → length ≡ result_of (job_refusal J) (span (transcript_sections (parameters J))) 0
length_found J P length e same h =
    h ∙ ap (λ P. span (transcript_sections P)) same ∙ ap (λ a. result_of a (span (transcript_sections (parameters J))) 0) e
