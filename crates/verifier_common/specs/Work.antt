-- What the verifier's checks stand on.
use Rattle.std.specs.Prelude.{◌≡◌, Bool, ℕ}
use Rattle.std.proofs.Math.Bool.{decide}
use mathlib.Core.List.{List, List-discrete}
use Rattle.std.proofs.Math.Decide.{ℕ_discrete}
use Rattle.spec_protocol.specs.Parameters.{parameters}
use Rattle.spec_protocol.specs.Layout.{job_sections, transcript_sections}
use Rattle.spec_protocol.specs.Laid.{Laid}
use Rattle.relation_env_params.specs.declared.env_params.EnvironmentParameters.{EnvironmentParameters}
use Rattle.relation_env_params.specs.Parameters.{parameters_of}
use Rattle.relation_env_params.specs.SectionOne.{Sound}
use Rattle.layout_sizes.specs.Sizes.{Sized}
use Rattle.core_workspace.specs.Ready.{Drawn}

-- parameters within their limits and a transcript of theirs
pub record Received (T : List ℕ) (params : EnvironmentParameters) : Type 0 where
  pub sized : Sized (parameters_of params)
  pub transcript : Laid T 0 (transcript_sections (parameters_of params))

-- a job and a transcript that are refused nothing
pub record Posed (J T : List ℕ) (params : EnvironmentParameters) : Type 0 where
  pub same : parameters_of params ≡ parameters J
  pub sound : Sound J
  pub job : Laid J 31 (job_sections (parameters J))
  pub transcript : Laid T 0 (transcript_sections (parameters J))

-- with a randomness
pub record Sent (J R T : List ℕ) (params : EnvironmentParameters) : Type 0 where
  pub posed : Posed J T params
  pub drawn : Drawn 7 J R

-- whether two lists of words are the same
abbrev pub equal : List ℕ → List ℕ → Bool
equal a b = decide (List-discrete ℕ_discrete a b)
