-- The call's answer and scratch by what is admitted.
use mathlib.Core.Path.{◌≡◌, ap, ◌∙◌}
use mathlib.Core.List.{List}
use Prim.Native.Nat.{ℕ}
use lib.ListN.{length, replicate}
use Rattle.spec_leaves.specs.declared.answers.Refusal.{Refusal}
use Rattle.spec_leaves.specs.Answer.{fine, refused, number, place, result_of, of_refusal}
use Rattle.spec_protocol.specs.Parameters.{parameters}
use Rattle.spec_protocol.specs.Prover.{zeroed}
use Rattle.spec_protocol.specs.Many.{many_need, many_refusal, many_scratch}
use Rattle.api_answers.specs.declared.verdicts.LabradorVerdict.{LabradorVerdict}
use Rattle.api_answers.specs.Calls.{failed_check}
use Rattle.admission_slices.proofs.Fit.{refusal_none}
use Rattle.verify_many.specs.declared.answers.LabradorVerdicts.{LabradorVerdicts}
use Rattle.verify_many.specs.Answers.{refused_verdicts, labrador_verdicts}

module _ (J : List ℕ) (count : ℕ) (S : List ℕ) (verdicts : List LabradorVerdict) where
  -- 35
  module _ (e : refused 35 0 ≡ many_refusal J count (length S)) where
    pub count-answer : (x : LabradorVerdicts) → x ≡ refused_verdicts 35 0 → x ≡ labrador_verdicts (many_refusal J count (length S)) verdicts
    count-answer x is = is ∙ ap (λ a. labrador_verdicts a verdicts) e

    pub count-scratch : S ≡ many_scratch J count S
    unfolding many_scratch
    count-scratch = ap (λ a. result_of a (zeroed (many_need (parameters J) count) S) S) e

  -- a refusal of document 01's list
  module _ (r : Refusal) (e : of_refusal r ≡ many_refusal J count (length S)) where
    pub refused-answer : (x : LabradorVerdicts) → x ≡ refused_verdicts (number (of_refusal r)) (place (of_refusal r)) → x ≡ labrador_verdicts (many_refusal J count (length S)) verdicts
    refused-answer x is = is ∙ kept ∙ ap (λ a. labrador_verdicts a verdicts) e
      where
        kept : refused_verdicts (number (of_refusal r)) (place (of_refusal r)) ≡ labrador_verdicts (of_refusal r) verdicts
        kept i = record {
          number = number (of_refusal r);
          place = place (of_refusal r);
          verdicts = refusal_none r verdicts (replicate 8 (failed_check 0 0 0 0)) i;
        }

    pub refused-scratch : S ≡ many_scratch J count S
    unfolding many_scratch
    refused-scratch = let Z = zeroed (many_need (parameters J) count) S in refusal_none r Z S ∙ ap (λ a. result_of a Z S) e

  -- eight verdicts
  module _ (e : fine ≡ many_refusal J count (length S)) where
    pub given-answer : (l : List LabradorVerdict) → l ≡ verdicts → record { number = 0; place = 0; verdicts = l } ≡ labrador_verdicts (many_refusal J count (length S)) verdicts
    given-answer l is = ap (λ l. labrador_verdicts fine l) is ∙ ap (λ a. labrador_verdicts a verdicts) e

    pub given-scratch : {S' : List ℕ} → S' ≡ zeroed (many_need (parameters J) count) S → S' ≡ many_scratch J count S
    unfolding many_scratch
    given-scratch f = f ∙ ap (λ a. result_of a (zeroed (many_need (parameters J) count) S) S) e
