-- What the row phase stands on.
use Rattle.std.specs.Prelude.{◌≡◌, Bool, true, List, ℕ, ◌≤◌, ◌<◌}
use Rattle.spec_protocol.specs.Parameters.{parameters}
use Rattle.spec_protocol.specs.Layout.{job_sections, transcript_sections}
use Rattle.spec_protocol.specs.Many.{many_need, transcript_part}
use Rattle.spec_protocol.specs.Laid.{Laid}
use Rattle.relation_env_params.specs.declared.env_params.EnvironmentParameters.{EnvironmentParameters}
use Rattle.relation_env_params.specs.Parameters.{parameters_of}
use Rattle.relation_env_params.specs.SectionOne.{Sound}

-- a job that is refused nothing, scratch enough for so many transcripts, and those of them that pass 9 and 10
pub record Rowable (J T : List ℕ) (count : ℕ) (passes : ℕ → Bool) (scratch : ℕ) (params : EnvironmentParameters) : Type 0 where
  pub same : parameters_of params ≡ parameters J
  pub sound : Sound J
  pub job : Laid J 31 (job_sections (parameters J))
  pub few : count ≤ 8
  pub room : many_need (parameters J) count ≤ scratch
  pub laid : (m : ℕ) → m < count → passes m ≡ true → Laid (transcript_part (parameters J) count T m) 0 (transcript_sections (parameters J))
