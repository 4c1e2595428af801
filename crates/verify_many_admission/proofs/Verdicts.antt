-- The single call's verdict on a transcript's parts.
use mathlib.Core.Path.{◌≡◌, sym, ap, ap₂, ◌∙◌}
use mathlib.Core.List.{List}
use Prim.Native.Nat.{ℕ, ◌≤◌}
use native.Mathlib.Nat.{le_refl}
use native.Mathlib.Decide.{dec_le}
use Rattle.spec_leaves.specs.declared.answers.Refusal.{Refusal}
use Rattle.spec_leaves.specs.Answer.{Answer, fine, refused, of_refusal, ◌then◌}
use Rattle.spec_protocol.specs.Parameters.{parameters}
use Rattle.spec_protocol.specs.Layout.{job_refusal, randomness_refusal, transcript_refusal, scratch_need, scratch_refusal}
use Rattle.spec_protocol.specs.Verifier.{verify, verify_refusal}
use Rattle.spec_protocol.specs.Mistyped.{verdict_of}
use Rattle.spec_protocol.proofs.Fine.{require-holds, then_both_fine, then_fine_left, then_fine_right}
use Rattle.spec_protocol.specs.Many.{randomness_part, transcript_part, part_refusal, part_verdict}
use Rattle.relation_env_params.specs.declared.env_params.EnvironmentParameters.{EnvironmentParameters}
use Rattle.relation_env_params.specs.Parameters.{parameters_of}
use Rattle.admission_slices.specs.Admission.{Verifiable}
use Rattle.admission_slices.proofs.Ready.{verifiable}
use Rattle.admission_slices.proofs.Stages.{stops_at}

-- with the scratch that the call needs
module _ (J R T : List ℕ) (fit : job_refusal J ≡ fine) where
  abbrev r : Answer
  r = randomness_refusal (parameters J) 7 R

  abbrev t : Answer
  t = transcript_refusal (parameters J) T

  abbrev s : Answer
  s = scratch_refusal (parameters J) (scratch_need (parameters J))

  -- a transcript that passes 7 to 10 is refused nothing before the work
  unrefused : r then t ≡ fine → verify_refusal J R T (scratch_need (parameters J)) ≡ fine
  unfolding verify_refusal
  unrefused h =
      let need = scratch_need (parameters J) in
      then_both_fine (then_both_fine (then_both_fine fit (then_fine_left r t h)) (then_fine_right r t h)) (require-holds (dec_le need need) (refused 1 need) (le_refl need))

  judged : r then t ≡ fine → verdict_of J R T ≡ verify J R T (scratch_need (parameters J))
  unfolding verify
  judged h = ap (λ a. a then verdict_of J R T) (sym (unrefused h))

  -- a refusal by 7 to 10 is the answer
  refused-by : (x : Refusal) → of_refusal x ≡ r then t → of_refusal x ≡ verify J R T (scratch_need (parameters J))
  unfolding verify verify_refusal
  refused-by x e = stops_at x (verdict_of J R T) (stops_at x s e) ∙ ap (λ a. a then r then t then s then verdict_of J R T) (sym fit)

-- the verdict is the same with any scratch that is enough
pub any_scratch : (J R T : List ℕ) (lent : ℕ) → scratch_need (parameters J) ≤ lent → verify J R T lent ≡ verify J R T (scratch_need (parameters J))
unfolding verify verify_refusal
any_scratch J R T lent h =
    let need = scratch_need (parameters J) in
    let before = job_refusal J then randomness_refusal (parameters J) 7 R then transcript_refusal (parameters J) T in
    ap (λ a. before then a then verdict_of J R T) (require-holds (dec_le need lent) (refused 1 need) h ∙ sym (require-holds (dec_le need need) (refused 1 need) (le_refl need)))

module _ (J : List ℕ) (count : ℕ) (R T : List ℕ) (m : ℕ) (fit : job_refusal J ≡ fine) where
  -- transcript m, refused
  pub part-refused : (x : Refusal) → of_refusal x ≡ part_refusal (parameters J) count R T m → of_refusal x ≡ part_verdict J count R T m
  unfolding part_refusal part_verdict
  part-refused x e = refused-by J (randomness_part (parameters J) count R m) (transcript_part (parameters J) count T m) fit x e

  -- transcript m, with its parts as they are lent
  module _ (R' T' : List ℕ) (e : R' ≡ randomness_part (parameters J) count R m) (f : T' ≡ transcript_part (parameters J) count T m) (h : part_refusal (parameters J) count R T m ≡ fine) where
    lent-fine : randomness_refusal (parameters J) 7 R' then transcript_refusal (parameters J) T' ≡ fine
    unfolding part_refusal
    lent-fine = ap₂ (λ R T. randomness_refusal (parameters J) 7 R then transcript_refusal (parameters J) T) e f ∙ h

    pub part_verifiable : (params : EnvironmentParameters) → parameters_of params ≡ parameters J → Verifiable J R' T' (scratch_need (parameters J)) params
    part_verifiable params same = verifiable J R' T' (scratch_need (parameters J)) params same (unrefused J R' T' fit lent-fine)

    pub part-judged : verdict_of J R' T' ≡ part_verdict J count R T m
    unfolding part_verdict
    part-judged = judged J R' T' fit lent-fine ∙ ap₂ (λ R T. verify J R T (scratch_need (parameters J))) e f
