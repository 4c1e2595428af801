-- The answers of the calls (document 01, "Who can cause which refusal" and "The verifier's checks, in order"; document 02), and what each case of the enums stands for.
use Rattle.std.specs.Prelude.{Bool, true, false, cond, List, [], ◌∷◌, ℕ, ◌+◌, ltb, Result, Ok, Err}
use Rattle.spec_leaves.specs.declared.answers.Refusal.{Refusal}
use Rattle.spec_leaves.specs.declared.answers.Refusal.TheVariants as R
use Rattle.spec_leaves.specs.declared.answers.FailedCheck.{FailedCheck}
use Rattle.spec_leaves.specs.declared.answers.FailedCheck.TheVariants as F
use Rattle.spec_leaves.specs.declared.answers.Rejection.{Rejection}
use Rattle.spec_leaves.specs.declared.answers.Rejection.TheVariants as J
use Rattle.spec_leaves.specs.declared.answers.Verdict.{Verdict}
use Rattle.spec_leaves.specs.declared.answers.Verdict.TheVariants as V'
use Rattle.spec_leaves.specs.declared.answers.OperandError.{OperandError}
use Rattle.spec_leaves.specs.declared.answers.OperandError.TheVariants as O

-- an answer of document 01: all is well; an acceptance, which by document 02, Item 5, "states how many cells of t, g and h together have a coefficient with something left";
-- a refusal's number and place; a failed check's number and values
pub data Answer : Type 0 where
  fine : Answer
  accepted : ℕ → Answer
  refused : ℕ → ℕ → Answer
  failed : ℕ → List ℕ → Answer

-- the number of an answer; 0 where all is well and of an acceptance
abbrev pub number : Answer → ℕ
number fine = 0
number (accepted cells) = 0
number (refused n p) = n
number (failed n vs) = n

-- the place of a refusal; 0 of any other answer
abbrev pub place : Answer → ℕ
place fine = 0
place (accepted cells) = 0
place (refused n p) = p
place (failed n vs) = 0

-- "On a refusal the result part is zero."; an acceptance has none
abbrev pub result_of {ℓ} : {A : Type ℓ} → Answer → A → A → A
result_of fine value none = value
result_of (accepted cells) value none = none
result_of (refused n p) value none = none
result_of (failed n vs) value none = none

-- whether all is well
abbrev pub is_fine : Answer → Bool
is_fine a = result_of a true false

infixl 20 ◌then◌
-- the first of two answers that is not fine
abbrev pub ◌then◌ : Answer → Answer → Answer
fine then b = b
accepted cells then b = accepted cells
refused n p then b = refused n p
failed n vs then b = failed n vs

-- the first word of a run at or above the limit is refused with the number; the run's first word is at the place
unfoldable pub below : (limit number place : ℕ) → List ℕ → Answer
below limit number place [] = fine
below limit number place (w ∷ ws) = cond (ltb w limit) (below limit number (place + 1) ws) (refused number place)

-- a refusal's number and place
abbrev pub of_refusal : Refusal → Answer
of_refusal (R.ScratchTooShort p) = refused 1 p
of_refusal (R.OutputTooShort p) = refused 2 p
of_refusal (R.JobLayout p) = refused 3 p
of_refusal (R.ParameterOutOfLimits p) = refused 4 p
of_refusal (R.TooFewAggregations p) = refused 5 p
of_refusal (R.JobWord p) = refused 6 p
of_refusal (R.RandomnessLayout p) = refused 7 p
of_refusal (R.RandomnessWord p) = refused 8 p
of_refusal (R.TranscriptLayout p) = refused 9 p
of_refusal (R.TranscriptWord p) = refused 10 p
of_refusal (R.WitnessLayout p) = refused 11 p
of_refusal (R.WitnessWord p) = refused 12 p
of_refusal (R.WitnessNorm p) = refused 13 p
of_refusal R.DigitsOfT = refused 14 0
of_refusal R.DigitsOfG = refused 15 0
of_refusal R.DigitsOfH = refused 16 0

-- a failed check's number and values
abbrev pub of_failed : FailedCheck → Answer
of_failed (F.ProjectionNorm norm limit) = failed 21 (norm ∷ limit ∷ [])
of_failed (F.B0Mismatch index sent computed) = failed 22 (index ∷ sent ∷ computed ∷ [])
of_failed (F.NormSum sum limit) = failed 23 (sum ∷ limit ∷ [])
of_failed F.Az = failed 24 []
of_failed F.ZInner = failed 25 []
of_failed F.Phi = failed 26 []
of_failed F.Relation = failed 27 []
of_failed F.OuterCommitU1 = failed 28 []
of_failed F.OuterCommitU2 = failed 29 []

-- what a transcript is rejected for
abbrev pub of_rejection : Rejection → Answer
of_rejection (J.Refused r) = of_refusal r
of_rejection (J.Failed f) = of_failed f

-- why a leaf call refuses its operands
abbrev pub of_operand_error : OperandError → Answer
of_operand_error (O.ParameterOutOfLimits p) = refused 4 p
of_operand_error (O.Word p) = refused 6 p
of_operand_error (O.SignWord p) = refused 8 p
of_operand_error (O.BaseOrParts p) = refused 31 p

-- what may be refused: all is well where there is a value
abbrev pub of_result : {T : Type 0} → Result T Refusal → Answer
of_result (Ok value) = fine
of_result (Err r) = of_refusal r

-- what a check of the verifier finds
abbrev pub of_checked : {T : Type 0} → Result T Rejection → Answer
of_checked (Ok value) = fine
of_checked (Err e) = of_rejection e

-- what the verifier finds: the value is the number of cells with something left
abbrev pub of_judged : Result ℕ Rejection → Answer
of_judged (Ok cells) = accepted cells
of_judged (Err e) = of_rejection e

-- a verdict's number and values
abbrev pub of_verdict : Verdict → Answer
of_verdict (V'.Accepted cells) = accepted cells
of_verdict (V'.Refused r) = of_refusal r
of_verdict (V'.Failed f) = of_failed f

-- a leaf call's number and place
abbrev pub of_operands : {T : Type 0} → Result T OperandError → Answer
of_operands (Ok value) = fine
of_operands (Err e) = of_operand_error e
