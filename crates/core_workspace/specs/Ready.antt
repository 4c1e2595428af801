-- What the steps of a call's work stand on.
use Rattle.std.specs.Prelude.{◌≡◌, List, ℕ, ◌+◌, ◌*◌, ◌≤◌, ◌<◌, length}
use Rattle.spec_protocol.specs.Parameters.{parameters}
use Rattle.spec_protocol.specs.Layout.{start, job_sections, randomness_sections, scratch_need}
use Rattle.spec_protocol.specs.Laid.{nth}
use Rattle.spec_protocol.specs.Laid as Sections
use Rattle.layout_regions.specs.declared.Regions.{Regions}
use Rattle.layout_regions.specs.Laid as Places
use Rattle.relation_env_params.specs.declared.env_params.EnvironmentParameters.{EnvironmentParameters}
use Rattle.relation_env_params.specs.Parameters.{parameters_of}
use Rattle.relation_env_params.specs.SectionOne.{Sound}
use Rattle.layout_sizes.specs.Sizes.{Sized}

-- a job that is refused nothing, its parameters, and a scratch of the length needed with the places of its regions
pub record Ready (J : List ℕ) (params : EnvironmentParameters) (regions : Regions) (scratch : List ℕ) : Type 0 where
  pub same : parameters_of params ≡ parameters J
  pub sound : Sound J
  pub job : Sections.Laid J 31 (job_sections (parameters J))
  pub laid : Places.Laid (parameters J).n (parameters J).r (parameters J).κ (parameters J).L regions
  pub room : scratch_need (parameters J) ≤ length scratch

-- the first m sections of the randomness lie within it
abbrev pub Drawn : ℕ → List ℕ → List ℕ → Type 0
Drawn m J R = let ss = randomness_sections (parameters J) in (k : ℕ) → k < m → start ss k + (nth ss k).count ≤ length R

-- the sign words and the shuffle words lie within the randomness, and the challenges' region within the scratch
pub record Challengeable (R : List ℕ) (params : EnvironmentParameters) (regions : Regions) (scratch : List ℕ) : Type 0 where
  pub sized : Sized (parameters_of params)
  pub signs : start (randomness_sections (parameters_of params)) 5 + 41 * params.multiplicity ≤ length R
  pub shuffle : start (randomness_sections (parameters_of params)) 6 + 63 * params.multiplicity ≤ length R
  pub room : regions.challenges + 64 * params.multiplicity ≤ length scratch
