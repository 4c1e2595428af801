-- A call that is refused before its work, and one whose work is done.
use mathlib.Core.Path.{◌≡◌, sym, ap, ◌∙◌}
use mathlib.Core.List.{List, []}
use Prim.Native.Nat.{ℕ, ◌≤◌, ◌<◌}
use native.Mathlib.Decide.{dec_le}
use native.Mathlib.Omega.{arith}
use lib.ListN.{length}
use Rattle.spec_leaves.specs.Answer.{Answer, fine, refused, result_of, of_refusal, ◌then◌}
use Rattle.spec_leaves.specs.declared.answers.Refusal.{Refusal}
use Rattle.spec_protocol.specs.Checks.{require}
use Rattle.spec_protocol.specs.Parameters.{parameters}
use Rattle.spec_protocol.specs.Layout.{scratch_need}
use Rattle.spec_protocol.specs.Prover.{zeroed}
use Rattle.spec_protocol.specs.Verifier.{verify_refusal}
use Rattle.spec_protocol.specs.Mistyped.{list_need, mistyped_refusal, mistyped, mistyped_list, mistyped_scratch, judged, verdict_of, written}
use Rattle.spec_protocol.proofs.Fine.{require-holds, require_fails, refused_not-fine}
use Rattle.mistyped.specs.declared.answers.MistypedAnswer.{MistypedAnswer}
use Rattle.mistyped.specs.Told.{mistyped_answer, kept, Worked, Mistyped}
use Rattle.mistyped.proofs.Verdicts.{numbered}

module _ (J R T S list : List ℕ) where
  -- what is refused before the work
  abbrev refusal : Answer
  refusal = mistyped_refusal J R T (length S) (length list)

  -- the verifier's refusals come first
  pub first_refusal : (r : Refusal) → of_refusal r ≡ verify_refusal J R T (length S) → refusal ≡ of_refusal r
  unfolding mistyped_refusal
  first_refusal r e =
      let n = numbered r in
      let b = require (dec_le (list_need (parameters J)) (length list)) (refused 2 (list_need (parameters J))) in
      ap (λ a. a then b) (sym e ∙ n.is) ∙ sym n.is

  module _ (e : fine ≡ verify_refusal J R T (length S)) where
    -- then a list that is too short
    pub short_list : length list < list_need (parameters J) → refusal ≡ refused 2 (list_need (parameters J))
    unfolding mistyped_refusal
    short_list h =
        let need = list_need (parameters J) in
        let b = require (dec_le need (length list)) (refused 2 need) in
        ap (λ a. a then b) (sym e) ∙ require_fails (dec_le need (length list)) (refused 2 need) (λ g. omega arith)

    -- and nothing else
    pub long_list : list_need (parameters J) ≤ length list → refusal ≡ fine
    unfolding mistyped_refusal
    long_list h =
        let need = list_need (parameters J) in
        let b = require (dec_le need (length list)) (refused 2 need) in
        ap (λ a. a then b) (sym e) ∙ require-holds (dec_le need (length list)) (refused 2 need) h

  -- a refusal before the work
  module _ {n p : ℕ} (e : refusal ≡ refused n p) where
    pub refused_call : (r : MistypedAnswer) → r ≡ mistyped_answer (refused n p) 0 → Mistyped J R T (length S) list list r
    unfolding mistyped mistyped_list
    refused_call r is = record {
      found = [];
      asked = λ f. absurd (refused_not-fine n p (sym e ∙ f));
      answer = is ∙ ap (λ a. mistyped_answer (a then judged (verdict_of J R T) []) 0) (sym e);
      words = ap (λ a. result_of a (written (list_need (parameters J)) (kept J R T []) list) list) (sym e);
    }

    pub refused-scratch : S ≡ mistyped_scratch J R T S (length list)
    unfolding mistyped_scratch
    refused-scratch = ap (λ a. result_of a (zeroed (scratch_need (parameters J)) S) S) (sym e)

  -- a call whose work is done
  module _ (e : refusal ≡ fine) where
    pub worked_call : {list' : List ℕ} {r : MistypedAnswer} → Worked J R T list list' r → Mistyped J R T (length S) list list' r
    unfolding mistyped mistyped_list
    worked_call w = record {
      found = w.found;
      asked = λ f. w.asked;
      answer = w.answer ∙ ap (λ a. mistyped_answer (a then judged (verdict_of J R T) w.found) (length w.found)) (sym e);
      words = w.words ∙ ap (λ a. result_of a (written (list_need (parameters J)) (kept J R T w.found) list) list) (sym e);
    }

    pub worked-scratch : {S' : List ℕ} → S' ≡ zeroed (scratch_need (parameters J)) S → S' ≡ mistyped_scratch J R T S (length list)
    unfolding mistyped_scratch
    worked-scratch f = f ∙ ap (λ a. result_of a (zeroed (scratch_need (parameters J)) S) S) (sym e)
