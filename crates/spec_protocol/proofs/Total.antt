-- The buffers at exit: their lengths and the words beyond the need are those at entry, and what stands before is made, zero or left.
use mathlib.Core.Path.{◌≡◌, refl, ap, ◌∙◌}
use mathlib.Core.List.{List, ◌++◌}
use Prim.Native.Nat.{ℕ, ◌≤◌}
use native.Mathlib.Decide.{dec_le}
use native.Mathlib.Omega.{arith}
use lib.ListN.{length, take, drop, replicate, length-append, length-drop, length-replicate}
use lib.Seq.{take_at, drop_at}
use Rattle.spec_leaves.specs.Answer.{Answer, fine, accepted, refused, failed, result_of, ◌then◌}
use Rattle.spec_protocol.specs.Parameters.{parameters}
use Rattle.spec_protocol.specs.Layout.{span, job_refusal, randomness_refusal, transcript_refusal, scratch_refusal, scratch_need}
use Rattle.spec_protocol.specs.Views.{public, witness}
use Rattle.spec_protocol.specs.Unchanged.{Unchanged}
use Rattle.spec_protocol.specs.Prover.{Call, made_sections, prove_refusal, work_refusal, made, zeroed, prove_output, prove_scratch}
use Rattle.spec_protocol.specs.Verifier.{verify_refusal, verify_scratch}
use Rattle.spec_protocol.proofs.Fine.{required, accepted_not-fine, refused_not-fine, failed_not-fine, then_fine_right}
use Rattle.spec_protocol.proofs.Accepted.{admitted, length-made}

-- a buffer that is left
pub unchanged_refl : (need : ℕ) (buffer : List ℕ) → Unchanged need buffer buffer
unchanged_refl need buffer = record { size = refl; beyond = refl }

-- a buffer whose needed part is written
unchanged_written : (need : ℕ) (new buffer : List ℕ) → length new ≡ need → need ≤ length buffer → Unchanged need buffer (new ++ drop need buffer)
unchanged_written need new buffer e h = record {
  size = length-append new (drop need buffer) ∙ omega (arith, length-drop need buffer);
  beyond = drop_at new (drop need buffer) need e;
}

-- a value that depends on whether an answer is fine
result_cases {ℓ} : {A : Type ℓ} (C : A → Type 0) (a : Answer) (value none : A) → (a ≡ fine → C value) → ((a ≡ fine → ⊥) → C none) → C (result_of a value none)
result_cases C fine value none f g = f refl
result_cases C (accepted cells) value none f g = g (accepted_not-fine cells)
result_cases C (refused n p) value none f g = g (refused_not-fine n p)
result_cases C (failed n vs) value none f g = g (failed_not-fine n vs)

-- a value for answers that are not fine
result-none {ℓ} : {A : Type ℓ} (a : Answer) (value none : A) → (a ≡ fine → ⊥) → result_of a value none ≡ none
result-none fine value none h = absurd (h refl)
result-none (accepted cells) value none h = refl
result-none (refused n p) value none h = refl
result-none (failed n vs) value none h = refl

-- the needed part of a buffer set to zero
take-zeroed : (need : ℕ) (buffer : List ℕ) → take need (zeroed need buffer) ≡ replicate need 0
take-zeroed need buffer = take_at (replicate need 0) (drop need buffer) need (length-replicate need 0)

-- a buffer that is zeroed where an answer is fine, else left
module _ (a : Answer) (need : ℕ) (buffer : List ℕ) where
  -- its length and the words beyond the need stay
  zeroed_unchanged : (a ≡ fine → need ≤ length buffer) → Unchanged need buffer (result_of a (zeroed need buffer) buffer)
  zeroed_unchanged fits =
      result_cases (Unchanged need buffer) a (zeroed need buffer) buffer
      (λ e. unchanged_written need (replicate need 0) buffer (length-replicate need 0) (fits e))
      (λ bad. unchanged_refl need buffer)

  -- its needed part is zero where the answer is fine
  zeroed-fine : a ≡ fine → take need (result_of a (zeroed need buffer) buffer) ≡ replicate need 0
  zeroed-fine e = ap (λ x. take need (result_of x (zeroed need buffer) buffer)) e ∙ take-zeroed need buffer

module _ (call : Call) (J R W scratch output : List ℕ) where
  -- "Words beyond never change.": the output
  pub output_unchanged : Unchanged (span (made_sections call (parameters J))) output (prove_output call J R W scratch output)
  unfolding prove_output
  output_unchanged =
      let X = public J R in
      let s = witness (parameters J) W in
      let need = span (made_sections call (parameters J)) in
      let refusal = prove_refusal call J R W (length scratch) (length output) in
      let worked = result_of (work_refusal X call s) (made X call s ++ drop need output) (zeroed need output) in
      result_cases (Unchanged need output) refusal worked output
      (λ e.
      let fits = (admitted call J R W (length scratch) (length output) e).output_fits in
      result_cases (Unchanged need output) (work_refusal X call s) (made X call s ++ drop need output) (zeroed need output)
      (λ f. unchanged_written need (made X call s) output (length-made call X s) fits)
      (λ bad. unchanged_written need (replicate need 0) output (length-replicate need 0) fits))
      (λ bad. unchanged_refl need output)

  -- the scratch
  pub scratch_unchanged : Unchanged (scratch_need (parameters J)) scratch (prove_scratch call J R W scratch output)
  unfolding prove_scratch
  scratch_unchanged =
      zeroed_unchanged (prove_refusal call J R W (length scratch) (length output)) (scratch_need (parameters J)) scratch
      (λ e. (admitted call J R W (length scratch) (length output) e).scratch_fits)

  -- "Refusals before the work touch no buffer.": the output
  pub output_left : (prove_refusal call J R W (length scratch) (length output) ≡ fine → ⊥) → prove_output call J R W scratch output ≡ output
  unfolding prove_output
  output_left bad =
      let X = public J R in
      let s = witness (parameters J) W in
      let need = span (made_sections call (parameters J)) in
      result-none (prove_refusal call J R W (length scratch) (length output)) (result_of (work_refusal X call s) (made X call s ++ drop need output) (zeroed need output)) output bad

  -- the scratch
  pub scratch_left : (prove_refusal call J R W (length scratch) (length output) ≡ fine → ⊥) → prove_scratch call J R W scratch output ≡ scratch
  unfolding prove_scratch
  scratch_left bad = result-none (prove_refusal call J R W (length scratch) (length output)) (zeroed (scratch_need (parameters J)) scratch) scratch bad

  module _ (e : prove_refusal call J R W (length scratch) (length output) ≡ fine) where
    -- "After any later answer scratch is zero to the length needed"
    pub scratch_zero : take (scratch_need (parameters J)) (prove_scratch call J R W scratch output) ≡ replicate (scratch_need (parameters J)) 0
    unfolding prove_scratch
    scratch_zero = zeroed-fine (prove_refusal call J R W (length scratch) (length output)) (scratch_need (parameters J)) scratch e

    -- "after 13 to 16 the output's needed part is zero too"
    pub output_zero : (work_refusal (public J R) call (witness (parameters J) W) ≡ fine → ⊥)
        → take (span (made_sections call (parameters J))) (prove_output call J R W scratch output) ≡ replicate (span (made_sections call (parameters J))) 0
    unfolding prove_output
    output_zero bad =
        let X = public J R in
        let s = witness (parameters J) W in
        let need = span (made_sections call (parameters J)) in
        ap (λ a. take need (result_of a (result_of (work_refusal X call s) (made X call s ++ drop need output) (zeroed need output)) output)) e
        ∙ ap (take need) (result-none (work_refusal X call s) (made X call s ++ drop need output) (zeroed need output) bad)
        ∙ take-zeroed need output

module _ (J R T scratch : List ℕ) where
  -- the verifier's scratch beyond the need
  pub verify_unchanged : Unchanged (scratch_need (parameters J)) scratch (verify_scratch J R T scratch)
  unfolding verify_scratch verify_refusal
  verify_unchanged =
      let P = parameters J in
      let need = scratch_need P in
      zeroed_unchanged (verify_refusal J R T (length scratch)) need scratch
      (λ e. required (dec_le need (length scratch)) (refused 1 need) (refused_not-fine 1 need)
      (then_fine_right (job_refusal J then randomness_refusal P 7 R then transcript_refusal P T) (scratch_refusal P (length scratch)) e))

  -- before the checks it is left
  pub verify-left : (verify_refusal J R T (length scratch) ≡ fine → ⊥) → verify_scratch J R T scratch ≡ scratch
  unfolding verify_scratch
  verify-left bad = result-none (verify_refusal J R T (length scratch)) (zeroed (scratch_need (parameters J)) scratch) scratch bad

  -- after them it is zero to the length needed
  pub verify_zero : verify_refusal J R T (length scratch) ≡ fine → take (scratch_need (parameters J)) (verify_scratch J R T scratch) ≡ replicate (scratch_need (parameters J)) 0
  unfolding verify_scratch
  verify_zero e = zeroed-fine (verify_refusal J R T (length scratch)) (scratch_need (parameters J)) scratch e
