-- The answers of the admission of a run, and what holds of a call that is refused nothing before its work.
use Rattle.std.specs.Prelude.{◌≡◌, List, ℕ, ◌≤◌, ◌<◌, Result, Ok, Err}
use Rattle.spec_leaves.specs.Answer.{Answer, fine, refused, of_refusal}
use Rattle.spec_protocol.specs.Parameters.{parameters}
use Rattle.spec_protocol.specs.Layout.{Section, span, job_sections, scratch_need}
use Rattle.spec_protocol.specs.Laid.{Laid}
use Rattle.relation_env_params.specs.declared.env_params.EnvironmentParameters.{EnvironmentParameters}
use Rattle.relation_env_params.specs.Parameters.{parameters_of}
use Rattle.relation_env_params.specs.SectionOne.{Sound}
use Rattle.spec_sheds.specs.Runs.{Run, projection_section, vectors_section, p_section}
use Rattle.shed_admission.specs.declared.admission.RunRefusal.{RunRefusal}
use Rattle.shed_admission.specs.declared.admission.RunRefusal.TheVariants as R

-- a refusal's number and place: 34 at the run's first index
abbrev pub of_run_refusal : RunRefusal → Answer
of_run_refusal (R.Refused r) = of_refusal r
of_run_refusal (R.Outside first) = refused 34 first

-- what may be refused of a call on a run
abbrev pub of_run_admitted : {T : Type 0} → Result T RunRefusal → Answer
of_run_admitted (Ok value) = fine
of_run_admitted (Err r) = of_run_refusal r

-- a job that is refused nothing, and a run within it
pub record InJob (J : List ℕ) (x : Run) (params : EnvironmentParameters) : Type 0 where
  pub same : parameters_of params ≡ parameters J
  pub sound : Sound J
  pub job : Laid J 31 (job_sections (parameters J))
  pub some : x.first < x.end
  pub within : x.end ≤ (parameters J).r

-- what the work of a call on a run needs: its vectors, and an output that is long enough for the section that it makes
pub record RunGiven (J : List ℕ) (x : Run) (S : List ℕ) (made : List Section) (output : ℕ) (params : EnvironmentParameters) : Type 0 where
  pub in_job : InJob J x params
  pub vectors : Laid S 0 (vectors_section (parameters J) x)
  pub output_fits : span made ≤ output

-- and a scratch that is
pub record Runnable (J : List ℕ) (x : Run) (S : List ℕ) (scratch : ℕ) (made : List Section) (output : ℕ) (params : EnvironmentParameters) : Type 0 where
  pub given : RunGiven J x S made output params
  pub scratch_fits : scratch_need (parameters J) ≤ scratch

-- and its projection words
pub record Projectable (J : List ℕ) (x : Run) (Π S : List ℕ) (scratch output : ℕ) (params : EnvironmentParameters) : Type 0 where
  pub runnable : Runnable J x S scratch p_section output params
  pub projection : Laid Π 0 (projection_section (parameters J) x)
