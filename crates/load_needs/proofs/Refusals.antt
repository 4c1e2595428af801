-- What is refused of the parameters and of the buffers' lengths.
use mathlib.Core.Path.{◌≡◌, refl, sym, ap, ◌∙◌}
use mathlib.Core.List.{◌++◌}
use Prim.Native.Nat.{ℕ, ◌≤◌}
use native.Mathlib.Decide.{dec_le}
use Rattle.spec_leaves.specs.Answer.{Answer, fine, refused, ◌then◌}
use Rattle.spec_protocol.specs.Checks.{require}
use Rattle.spec_protocol.specs.Parameters.{limits}
use Rattle.spec_protocol.specs.Layout.{counted, first_section, job_sections, witness_sections, randomness_sections, output_refusal}
use Rattle.spec_protocol.specs.Load.{Given, load_parameters, needs_refusal, load_refusal, job_need, witness_need, randomness_need}
use Rattle.spec_protocol.proofs.Fine.{required, refused_not-fine, then_fine_left, then_fine_right}
use Rattle.spec_protocol.proofs.Then.{then_assoc}
use Rattle.relation_env_params.specs.declared.env_params.EnvironmentParameters.{EnvironmentParameters}
use Rattle.relation_env_params.specs.Parameters.{parameters_of}
use Rattle.layout_section_one.specs.SectionOne.{section_one}
use Rattle.layout_section_one.proofs.Limits.{sound}
use Rattle.layout_sizes.proofs.Sized.{sized}
use Rattle.admission_buffers.specs.Lengths.{short_output}
use Rattle.load_needs.specs.Given.{one_of, fits_refusal, Ready}

-- what is found of a buffer's length
pub length_found : (lent : ℕ) {need needed : ℕ} {z : Answer} → need ≡ needed → z ≡ short_output need lent → z ≡ require (dec_le needed lent) (refused 2 needed)
unfolding short_output
length_found lent e found = found ∙ ap (λ n. require (dec_le n lent) (refused 2 n)) e

-- section one of a load has its count and its words
pub only_limits : (G : Given) → section_one (one_of G) ≡ needs_refusal G
unfolding counted limits dec_le
only_limits G = refl

-- parameters that are read are within their limits
pub ready : (G : Given) (params : EnvironmentParameters) → fine ≡ needs_refusal G → parameters_of params ≡ load_parameters G → Ready G params
ready G params fit same = record { same = same; sized = sized (one_of G) (parameters_of params) (sound (one_of G) (only_limits G ∙ sym fit)) same }

-- the refusals of a load: of the parameters, then of the buffers
pub all_refusals : (G : Given) (job witness randomness : ℕ) → load_refusal G job witness randomness ≡ needs_refusal G then fits_refusal (load_parameters G) job witness randomness
unfolding load_refusal
all_refusals G job witness randomness =
    let P = load_parameters G in
    let job-room = output_refusal (first_section ++ job_sections P) job in
    let witness-room = output_refusal (witness_sections P) witness in
    let randomness-room = output_refusal (randomness_sections P) randomness in
    ap (λ a. a then randomness-room) (then_assoc (needs_refusal G) job-room witness-room) ∙ then_assoc (needs_refusal G) (job-room then witness-room) randomness-room

-- buffers of a load that is refused nothing are long enough
pub record LongEnough (G : Given) (job witness randomness : ℕ) : Type 0 where
  pub job_fits : job_need G ≤ job
  pub witness_fits : witness_need G ≤ witness
  pub randomness_fits : randomness_need G ≤ randomness

pub room : (G : Given) (job witness randomness : ℕ) → load_refusal G job witness randomness ≡ fine → LongEnough G job witness randomness
unfolding load_refusal
room G job witness randomness e =
    let P = load_parameters G in
    let n = needs_refusal G in
    let a = output_refusal (first_section ++ job_sections P) job in
    let b = output_refusal (witness_sections P) witness in
    let c = output_refusal (randomness_sections P) randomness in
    let three : n then a then b ≡ fine = then_fine_left (n then a then b) c e in
    let two : n then a ≡ fine = then_fine_left (n then a) b three in
    record {
      job_fits = required (dec_le (job_need G) job) (refused 2 (job_need G)) (refused_not-fine 2 (job_need G)) (then_fine_right n a two);
      witness_fits = required (dec_le (witness_need G) witness) (refused 2 (witness_need G)) (refused_not-fine 2 (witness_need G)) (then_fine_right (n then a) b three);
      randomness_fits = required (dec_le (randomness_need G) randomness) (refused 2 (randomness_need G)) (refused_not-fine 2 (randomness_need G)) (then_fine_right (n then a then b) c e);
    }
