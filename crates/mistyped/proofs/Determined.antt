-- Nothing of the call is left open: its answer and its list are determined by what it is handed.
use mathlib.Core.Path.{◌≡◌, refl, sym, ap, ◌∙◌}
use mathlib.Core.Bool.{Bool, true, false, cond}
use mathlib.Core.List.{List, []}
use Prim.Native.Nat.{ℕ}
use borrow.Author.Tests.{eqb-true}
use lib.Dec.{eqb}
use lib.ListN.{length}
use Rattle.spec_leaves.specs.Answer.{Answer, fine, accepted, refused, failed, number, result_of, ◌then◌}
use Rattle.spec_protocol.specs.Parameters.{parameters}
use Rattle.spec_protocol.specs.Views.{public, message}
use Rattle.spec_protocol.specs.Mistyped.{Entry, judged, some_entry, mistyped, mistyped_list, mistyped_refusal, verdict_of, written, list_need}
use Rattle.spec_protocol.proofs.MistypedList.{listed_unique}
use Rattle.mistyped.specs.declared.answers.MistypedAnswer.{MistypedAnswer}
use Rattle.mistyped.specs.Told.{mistyped_answer, Mistyped}

-- what is answered of entries, and which stand in the list
record Outcome : Type 0 where
  answer : MistypedAnswer
  entries : List Entry

-- with a verdict, and where nothing is refused before it
abbrev outcome : (refusal verdict : Answer) → List Entry → Outcome
outcome a v es = record { answer = mistyped_answer (a then judged v es) (length es); entries = result_of a (result_of (judged v es) es []) [] }

-- only a failed 22 asks for the entries
outcome_same : (a v : Answer) (es fs : List Entry) → (a ≡ fine → number v ≡ 22 → es ≡ fs) → outcome a v es ≡ outcome a v fs
outcome_same (accepted cells) v es fs h = refl
outcome_same (refused n p) v es fs h = refl
outcome_same (failed n vs) v es fs h = refl
outcome_same fine fine es fs h = refl
outcome_same fine (accepted cells) es fs h = refl
outcome_same fine (refused n p) es fs h = refl
outcome_same fine (failed n vs) es fs h = go (eqb n 22) refl
  where
    go : (b : Bool) → eqb n 22 ≡ b → outcome fine (failed n vs) es ≡ outcome fine (failed n vs) fs
    go true e = ap (outcome fine (failed n vs)) (h refl (eqb-true n 22 e))
    go false e = closed es ∙ sym (closed fs)
      where
        closed : (gs : List Entry) → outcome fine (failed n vs) gs ≡ record { answer = mistyped_answer (refused 32 0) 0; entries = [] }
        closed gs = ap (λ b. record { answer = mistyped_answer (cond b (some_entry gs) (refused 32 0)) (length gs); entries = result_of (cond b (some_entry gs) (refused 32 0)) gs [] }) e

module _ (J R T : List ℕ) (scratch : ℕ) (list : List ℕ) where
  -- the list by the outcome
  list_is : (es : List Entry) → mistyped_list J R T scratch list es
      ≡ result_of (mistyped_refusal J R T scratch (length list)) (written (list_need (parameters J)) (outcome (mistyped_refusal J R T scratch (length list)) (verdict_of J R T) es).entries list) list
  unfolding mistyped_list
  list_is es = by (mistyped_refusal J R T scratch (length list))
    where
      by : (a : Answer) → result_of a (written (list_need (parameters J)) (result_of (judged (verdict_of J R T) es) es []) list) list
          ≡ result_of a (written (list_need (parameters J)) (outcome a (verdict_of J R T) es).entries list) list
      by fine = refl
      by (accepted cells) = refl
      by (refused n p) = refl
      by (failed n vs) = refl

  pub determined : {list' list'' : List ℕ} {r s : MistypedAnswer} → Mistyped J R T scratch list list' r → Mistyped J R T scratch list list'' s → (r ≡ s) × (list' ≡ list'')
  unfolding mistyped
  determined p q =
      let a = mistyped_refusal J R T scratch (length list) in
      let v = verdict_of J R T in
      let e = outcome_same a v p.found q.found (λ f n. listed_unique (public J R) (message (parameters J) T) p.found q.found (p.asked f n) (q.asked f n)) in (
        p.answer ∙ ap (λ (o : Outcome). o.answer) e ∙ sym q.answer,
        p.words ∙ list_is p.found ∙ ap (λ (o : Outcome). result_of a (written (list_need (parameters J)) o.entries list) list) e ∙ sym (q.words ∙ list_is q.found),
      )
