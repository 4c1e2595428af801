-- What holds of a call that is refused nothing before its work.
use mathlib.Core.Path.{◌≡◌, sym}
use mathlib.Core.List.{List}
use Prim.Native.Nat.{ℕ, ◌≤◌}
use native.Mathlib.Decide.{dec_le}
use native.Mathlib.Omega.{arith}
use lib.ListN.{length, take}
use Rattle.spec_leaves.specs.Answer.{fine, refused, ◌then◌}
use Rattle.spec_protocol.specs.Checks.{require}
use Rattle.spec_protocol.specs.Parameters.{Parameters, parameters}
use Rattle.spec_protocol.specs.Layout.{Section, span, layout, ranged, job_sections, randomness_sections, witness_sections, transcript_sections, job_refusal}
use Rattle.spec_protocol.specs.Layout.{randomness_refusal, witness_refusal, transcript_refusal, scratch_need, scratch_refusal, output_refusal}
use Rattle.spec_protocol.specs.Prover.{Call, made_sections, prove_refusal}
use Rattle.spec_protocol.specs.Verifier.{verify_refusal}
use Rattle.spec_protocol.proofs.Fine.{required, refused_not-fine, then_fine_left, then_fine_right}
use Rattle.spec_protocol.specs.Laid.{Laid}
use Rattle.spec_protocol.proofs.Laid.{laid}
use Rattle.relation_env_params.specs.declared.env_params.EnvironmentParameters.{EnvironmentParameters}
use Rattle.relation_env_params.specs.Parameters.{parameters_of}
use Rattle.relation_env_params.specs.SectionOne.{Sound}
use Rattle.layout_section_one.specs.SectionOne.{section_one}
use Rattle.layout_section_one.proofs.Limits.{sound}
use Rattle.layout_sizes.specs.Sizes.{Sized}
use Rattle.layout_sizes.proofs.Sized.{sized}
use Rattle.admission_slices.specs.Admission.{Provable, Verifiable}

-- what is refused nothing after a layout and ranges
slice_laid : (a b : ℕ) (words : List ℕ) (place : ℕ) (ss : List Section) → place ≤ length words → layout a words place ss then ranged b words place ss ≡ fine → Laid words place ss
slice_laid a b words place ss h e =
    laid a b words place ss h (then_fine_left (layout a words place ss) (ranged b words place ss) e) (then_fine_right (layout a words place ss) (ranged b words place ss) e)

-- a buffer that is refused nothing is long enough
lent-enough : (number lent need : ℕ) → require (dec_le need lent) (refused number need) ≡ fine → need ≤ lent
lent-enough number lent need e = required (dec_le need lent) (refused number need) (refused_not-fine number need) e

module _ (J : List ℕ) (e : job_refusal J ≡ fine) where
  -- a job that is refused nothing has a sound section one
  pub job-sound : Sound J
  unfolding job_refusal
  job-sound =
      let ss = job_sections (parameters J) in
      sound J (then_fine_left (section_one J) (layout 3 J 31 ss) (then_fine_left (section_one J then layout 3 J 31 ss) (ranged 6 J 31 ss) e))

  -- and its sections
  pub job-laid : Laid J 31 (job_sections (parameters J))
  unfolding job_refusal
  job-laid =
      let ss = job_sections (parameters J) in
      let two = then_fine_left (section_one J then layout 3 J 31 ss) (ranged 6 J 31 ss) e in
      laid 3 6 J 31 ss job-sound.room (then_fine_right (section_one J) (layout 3 J 31 ss) two) (then_fine_right (section_one J then layout 3 J 31 ss) (ranged 6 J 31 ss) e)

-- the parameters of a job that is refused nothing can be reckoned with
pub job-sized : (J : List ℕ) (Q : Parameters) → fine ≡ job_refusal J → Q ≡ parameters J → Sized Q
job-sized J Q e same = sized J Q (job-sound J (sym e)) same

randomness-laid : (P : Parameters) (m : ℕ) (R : List ℕ) → randomness_refusal P m R ≡ fine → Laid R 0 (take m (randomness_sections P))
unfolding randomness_refusal
randomness-laid P m R e = slice_laid 7 8 R 0 (take m (randomness_sections P)) (omega arith) e

witness-laid : (P : Parameters) (W : List ℕ) → witness_refusal P W ≡ fine → Laid W 0 (witness_sections P)
unfolding witness_refusal
witness-laid P W e = slice_laid 11 12 W 0 (witness_sections P) (omega arith) e

pub transcript-laid : (P : Parameters) (T : List ℕ) → transcript_refusal P T ≡ fine → Laid T 0 (transcript_sections P)
unfolding transcript_refusal
transcript-laid P T e = slice_laid 9 10 T 0 (transcript_sections P) (omega arith) e

-- a prover's call
pub provable : (call : Call) (J R W : List ℕ) (scratch output : ℕ) (params : EnvironmentParameters) → parameters_of params ≡ parameters J
    → prove_refusal call J R W scratch output ≡ fine → Provable call J R W scratch output params
unfolding prove_refusal
provable call J R W scratch output params same e =
    let P = parameters J in
    let r = randomness_refusal P call.handed R in
    let w = witness_refusal P W in
    let s = scratch_refusal P scratch in
    let o = output_refusal (made_sections call P) output in
    let four = then_fine_left (job_refusal J then r then w then s) o e in
    let three = then_fine_left (job_refusal J then r then w) s four in
    let two = then_fine_left (job_refusal J then r) w three in
    let one = then_fine_left (job_refusal J) r two in
    record {
      handed = record {
        same = same;
        sound = job-sound J one;
        job = job-laid J one;
        randomness = randomness-laid P call.handed R (then_fine_right (job_refusal J) r two);
        scratch_fits = lent-enough 1 scratch (scratch_need P) (then_fine_right (job_refusal J then r then w) s four);
      };
      witness = witness-laid P W (then_fine_right (job_refusal J then r) w three);
      output_fits = lent-enough 2 output (span (made_sections call P)) (then_fine_right (job_refusal J then r then w then s) o e);
    }

-- the verifier's call
pub verifiable : (J R T : List ℕ) (scratch : ℕ) (params : EnvironmentParameters) → parameters_of params ≡ parameters J
    → verify_refusal J R T scratch ≡ fine → Verifiable J R T scratch params
unfolding verify_refusal
verifiable J R T scratch params same e =
    let P = parameters J in
    let r = randomness_refusal P 7 R in
    let t = transcript_refusal P T in
    let s = scratch_refusal P scratch in
    let three = then_fine_left (job_refusal J then r then t) s e in
    let two = then_fine_left (job_refusal J then r) t three in
    let one = then_fine_left (job_refusal J) r two in
    record {
      handed = record {
        same = same;
        sound = job-sound J one;
        job = job-laid J one;
        randomness = randomness-laid P 7 R (then_fine_right (job_refusal J) r two);
        scratch_fits = lent-enough 1 scratch (scratch_need P) (then_fine_right (job_refusal J then r then t) s e);
      };
      transcript = transcript-laid P T (then_fine_right (job_refusal J then r) t three);
    }
