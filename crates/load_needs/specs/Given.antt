-- What the record of twelve parameters stands for, and the lengths that a load needs.
use Rattle.std.specs.Prelude.{◌≡◌, List, ◌∷◌, ◌++◌, ℕ}
use Rattle.spec_leaves.specs.Answer.{Answer, ◌then◌}
use Rattle.spec_protocol.specs.Parameters.{Parameters}
use Rattle.spec_protocol.specs.Layout.{span, first_section, job_sections, witness_sections, randomness_sections, output_refusal}
use Rattle.spec_protocol.specs.Load.{Given, section_one, load_parameters}
use Rattle.relation_env_params.specs.declared.env_params.EnvironmentParameters.{EnvironmentParameters}
use Rattle.relation_env_params.specs.Parameters.{parameters_of}
use Rattle.layout_sizes.specs.Sizes.{Sized}
use Rattle.load_needs.specs.declared.LabradorParameters.{LabradorParameters}
use Rattle.load_needs.specs.declared.Needs.{Needs}

-- the twelve parameters
abbrev pub given : LabradorParameters → Given
given g = record {
  n = g.n;
  r = g.r;
  κ = g.kappa;
  κ₁ = g.kappa_1;
  κ₂ = g.kappa_2;
  K = g.constraint_k;
  l = g.constraint_l;
  log_q = g.log_q;
  b = g.b;
  t₁ = g.t_1;
  t₂ = g.t_2;
  L = g.const_agg_length;
}

-- section one with its count
abbrev pub one_of : Given → List ℕ
one_of G = 30 ∷ section_one G

-- the lengths needed
pub record Lengths (P : Parameters) (needs : Needs) : Type 0 where
  pub job : needs.job ≡ span (first_section ++ job_sections P)
  pub witness : needs.witness ≡ span (witness_sections P)
  pub randomness : needs.randomness ≡ span (randomness_sections P)

-- the first buffer that is too short
abbrev pub fits_refusal : Parameters → (job witness randomness : ℕ) → Answer
fits_refusal P job witness randomness =
    output_refusal (first_section ++ job_sections P) job
    then output_refusal (witness_sections P) witness
    then output_refusal (randomness_sections P) randomness

-- what the work needs of the parameters
pub record Ready (G : Given) (params : EnvironmentParameters) : Type 0 where
  pub same : parameters_of params ≡ load_parameters G
  pub sized : Sized (parameters_of params)
