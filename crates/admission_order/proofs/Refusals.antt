-- The refusals of the prover's calls and of the verifier, test after test, as the code finds them.
use mathlib.Core.Path.{◌≡◌, ap, ◌∙◌}
use mathlib.Core.List.{List}
use Prim.Native.Nat.{ℕ}
use Rattle.spec_leaves.specs.declared.answers.Refusal.{Refusal}
use Rattle.spec_leaves.specs.Answer.{Answer, fine, of_refusal, ◌then◌}
use Rattle.spec_protocol.specs.Parameters.{Parameters, parameters}
use Rattle.spec_protocol.specs.Layout.{job_refusal, randomness_refusal, witness_refusal, transcript_refusal, scratch_refusal, output_refusal}
use Rattle.spec_protocol.specs.Prover.{Call, made_sections, prove_refusal}
use Rattle.spec_protocol.specs.Verifier.{verify_refusal}
use Rattle.layout_sections.proofs.Then.{goes_on}
use Rattle.admission_slices.proofs.Stages.{stops_at, stage₁, stage₂, stage₃, stage₄}

-- a call of the prover
module _ (call : Call) (J R W : List ℕ) (scratch output : ℕ) where
  -- the answers of the tests, of given parameters
  abbrev r-answer : Parameters → Answer
  r-answer P = randomness_refusal P call.handed R

  abbrev w_answer : Parameters → Answer
  w_answer P = witness_refusal P W

  abbrev s-answer : Parameters → Answer
  s-answer P = scratch_refusal P scratch

  abbrev o_answer : Parameters → Answer
  o_answer P = output_refusal (made_sections call P) output

  pub job_refuses : (r : Refusal) → of_refusal r ≡ job_refusal J → of_refusal r ≡ prove_refusal call J R W scratch output
  unfolding prove_refusal
  job_refuses r e = let P = parameters J in stops_at r (o_answer P) (stage₁ (job_refusal J) (r-answer P) (w_answer P) (s-answer P) r e)

  module _ (Q : Parameters) (same : Q ≡ parameters J) (j : fine ≡ job_refusal J) where
    -- the parameters are the job's
    of_job : {z : Answer} → z ≡ job_refusal J then r-answer Q then w_answer Q then s-answer Q then o_answer Q → z ≡ prove_refusal call J R W scratch output
    unfolding prove_refusal
    of_job e = e ∙ ap (λ P. job_refusal J then r-answer P then w_answer P then s-answer P then o_answer P) same

    pub randomness_refuses : (r : Refusal) → of_refusal r ≡ r-answer Q → of_refusal r ≡ prove_refusal call J R W scratch output
    randomness_refuses r e = of_job (stops_at r (o_answer Q) (stage₂ (job_refusal J) (r-answer Q) (w_answer Q) (s-answer Q) j r e))

    module _ (k : fine ≡ r-answer Q) where
      pub witness_refuses : (r : Refusal) → of_refusal r ≡ w_answer Q → of_refusal r ≡ prove_refusal call J R W scratch output
      witness_refuses r e = of_job (stops_at r (o_answer Q) (stage₃ (job_refusal J) (r-answer Q) (w_answer Q) (s-answer Q) j k r e))

      module _ (w : fine ≡ w_answer Q) where
        pub scratch_refuses : (r : Refusal) → of_refusal r ≡ s-answer Q → of_refusal r ≡ prove_refusal call J R W scratch output
        scratch_refuses r e = of_job (stops_at r (o_answer Q) (stage₄ (job_refusal J) (r-answer Q) (w_answer Q) (s-answer Q) j k w e))

        pub output-answers : fine ≡ s-answer Q → {z : Answer} → z ≡ o_answer Q → z ≡ prove_refusal call J R W scratch output
        output-answers s e = of_job (goes_on (stage₄ (job_refusal J) (r-answer Q) (w_answer Q) (s-answer Q) j k w s) e)

-- the verifier
module _ (J R T : List ℕ) (scratch : ℕ) where
  abbrev all-answers : Parameters → Answer
  all-answers P = job_refusal J then randomness_refusal P 7 R then transcript_refusal P T then scratch_refusal P scratch

  pub job_refuses' : (r : Refusal) → of_refusal r ≡ job_refusal J → of_refusal r ≡ verify_refusal J R T scratch
  unfolding verify_refusal
  job_refuses' r e = let P = parameters J in stage₁ (job_refusal J) (randomness_refusal P 7 R) (transcript_refusal P T) (scratch_refusal P scratch) r e

  module _ (Q : Parameters) (same : Q ≡ parameters J) (j : fine ≡ job_refusal J) where
    of_job' : {z : Answer} → z ≡ all-answers Q → z ≡ verify_refusal J R T scratch
    unfolding verify_refusal
    of_job' e = e ∙ ap all-answers same

    pub randomness_refuses' : (r : Refusal) → of_refusal r ≡ randomness_refusal Q 7 R → of_refusal r ≡ verify_refusal J R T scratch
    randomness_refuses' r e = of_job' (stage₂ (job_refusal J) (randomness_refusal Q 7 R) (transcript_refusal Q T) (scratch_refusal Q scratch) j r e)

    module _ (k : fine ≡ randomness_refusal Q 7 R) where
      pub transcript_refuses : (r : Refusal) → of_refusal r ≡ transcript_refusal Q T → of_refusal r ≡ verify_refusal J R T scratch
      transcript_refuses r e = of_job' (stage₃ (job_refusal J) (randomness_refusal Q 7 R) (transcript_refusal Q T) (scratch_refusal Q scratch) j k r e)

      pub scratch-answers : fine ≡ transcript_refusal Q T → {z : Answer} → z ≡ scratch_refusal Q scratch → z ≡ verify_refusal J R T scratch
      scratch-answers t e = of_job' (stage₄ (job_refusal J) (randomness_refusal Q 7 R) (transcript_refusal Q T) (scratch_refusal Q scratch) j k t e)
