-- Demand 3 over the structs of `labrador_prove` and `labrador_verify`, from what the two contracts ensure.
use mathlib.Core.Path.{◌≡◌, refl, sym, ap, subst, ◌∙◌}
use mathlib.Core.Logic.{◌⊎◌, inl, inr}
use mathlib.Core.List.{List}
use Prim.Native.Nat.{ℕ, ◌≤◌}
use native.Mathlib.Omega.{arith}
use lib.ListN.{length}
use Rattle.spec_leaves.specs.Answer.{Answer, fine, accepted, number}
use Rattle.spec_leaves.specs.Rq.{Element}
use Rattle.spec_protocol.specs.Parameters.{parameters}
use Rattle.spec_protocol.specs.Layout.{scratch_need}
use Rattle.spec_protocol.specs.Views.{Public, public, witness}
use Rattle.spec_protocol.specs.Prover.{whole, prove}
use Rattle.spec_protocol.specs.Verifier.{verify}
use Rattle.spec_protocol.specs.Conditions.{conditions, cells_left, Held, Named, all_hold, by_21, by_22, by_23, by_27, Demand3}
use Rattle.spec_protocol.proofs.Demand3.{demand_3}
use Rattle.spec_protocol.proofs.Stated.{stated}
use Rattle.api_answers.specs.declared.verdicts.LabradorAnswer.{LabradorAnswer}
use Rattle.api_answers.specs.declared.verdicts.LabradorVerdict.{LabradorVerdict}
use Rattle.api_answers.specs.Calls.{labrador_verdict}
use Rattle.api_answers.specs.Whole.{ProveCall, VerifyCall}
use Rattle.theorem_prove_then_verify.proofs.Demand3Calls.{sent}
use Rattle.theorem_exports.specs.Told.{Demand3Told}
use Rattle.theorem_exports.proofs.Unrefused.{named_unrefused}
use Rattle.spec_protocol.proofs.Refuses.{zero_well, of_prove}

-- a prover that answers 0 is refused nothing
pub proved_zero : (J R W scratch output scratch' output' : List ℕ) (p : LabradorAnswer) → ProveCall whole J R W scratch output scratch' output' p → p.number ≡ 0
    → prove whole J R W (length scratch) (length output) ≡ fine
proved_zero J R W scratch output scratch' output' p c zero =
    zero_well (of_prove whole J R W (length scratch) (length output)) (sym (ap (λ (a : LabradorAnswer). a.number) c.answer) ∙ zero)

module _ {X : Public} {s : ℕ → ℕ → Element} where
  -- the struct of what is named: where its number is 0, all four hold
  named_zero : {a : Answer} → Named X s a → (labrador_verdict a).number ≡ 0 → Held X s × ((labrador_verdict a).cells_left ≡ cells_left X s)
  named_zero (all_hold h) e = (h, refl)
  named_zero (by_21 f) e = absurd (omega arith)
  named_zero (by_22 k f l before bad) e = absurd (omega arith)
  named_zero (by_23 f zeros g) e = absurd (omega arith)
  named_zero (by_27 f zeros g bad) e = absurd (omega arith)

  -- a number of what is named is the struct's
  named_number : {a : Answer} → Named X s a → (labrador_verdict a).number ≡ number a
  named_number (all_hold h) = refl
  named_number (by_21 f) = refl
  named_number (by_22 k f l before bad) = refl
  named_number (by_23 f zeros g) = refl
  named_number (by_27 f zeros g bad) = refl

  -- an answer as demand 3 says, as a struct
  told : {a : Answer} → Demand3 X s a → Demand3Told X s (labrador_verdict a)
  told {a} d =
      let named = d.names_the_first in
      let of_number = named_number named in
      record {
        accepts_exactly_when = (λ e. (named_zero named e).0, λ four. of_number ∙ ap number ((d.accepts_exactly_when (cells_left X s)).1 (four, refl)));
        cells_of_it = λ e. (named_zero named e).1;
        never_refuses = named_unrefused named;
        names_the_first = (a, (named, refl));
        by_norm_only = λ met. norm_only of_number (d.by_norm_only met);
      }
    where
      norm_only : (labrador_verdict a).number ≡ number a → (a ≡ accepted (cells_left X s)) ⊎ ((number a ≡ 21) ⊎ (number a ≡ 23))
          → ((labrador_verdict a).number ≡ 0) ⊎ (((labrador_verdict a).number ≡ 21) ⊎ ((labrador_verdict a).number ≡ 23))
      norm_only e (inl f) = inl (e ∙ ap number f)
      norm_only e (inr (inl f)) = inr (inl (e ∙ f))
      norm_only e (inr (inr f)) = inr (inr (e ∙ f))

-- `labrador_prove` answers 0; `labrador_verify` is handed its transcript, the same job and randomness, and scratch enough
module _ (J R W scratch output scratch' output' lent lent' : List ℕ) (p : LabradorAnswer) (v : LabradorVerdict)
    (made : ProveCall whole J R W scratch output scratch' output' p) (zero : p.number ≡ 0)
    (enough : scratch_need (parameters J) ≤ length lent) (judged : VerifyCall J R (sent J output') lent lent' v) where
  verdict_is : verify J R (sent J output') (length lent) ≡ conditions (public J R) (witness (parameters J) W)
  verdict_is =
      ap (λ o. verify J R (sent J o) (length lent)) made.output_left
      ∙ demand_3 J R W scratch output (length lent) (proved_zero J R W scratch output scratch' output' p made zero) enough

  -- the verdict is that of the four conditions
  pub demand_3_over_exports : v ≡ labrador_verdict (conditions (public J R) (witness (parameters J) W))
  demand_3_over_exports = judged.answer ∙ ap labrador_verdict verdict_is

  -- and is as demand 3 says
  pub told_over_exports : Demand3Told (public J R) (witness (parameters J) W) v
  told_over_exports = subst (Demand3Told (public J R) (witness (parameters J) W)) (sym judged.answer) (told (stated verdict_is))
