-- What `labrador_verify` answers with the number 0.
use mathlib.Core.Path.{◌≡◌, sym, ap, ◌∙◌}
use mathlib.Core.List.{List}
use Prim.Native.Nat.{ℕ}
use lib.ListN.{length}
use Rattle.spec_leaves.specs.Answer.{accepted}
use Rattle.spec_protocol.specs.Verifier.{verify}
use Rattle.spec_protocol.proofs.Acceptance.{zero_accepts}
use Rattle.api_answers.specs.declared.verdicts.LabradorVerdict.{LabradorVerdict}
use Rattle.api_answers.specs.Calls.{labrador_verdict}
use Rattle.api_answers.specs.Whole.{VerifyCall}
use Rattle.api_answers.proofs.Number.{same_number}

-- a verdict with the number 0 is an acceptance, with the number of cells that it states
module _ (J R X scratch : List ℕ) {left : List ℕ} (v : LabradorVerdict) (judged : VerifyCall J R X scratch left v) (zero : v.number ≡ 0) where
  pub accepts : verify J R X (length scratch) ≡ accepted v.cells_left
  accepts =
      let a = verify J R X (length scratch) in
      let (cells, e) = zero_accepts J R X (length scratch) (sym (same_number a) ∙ sym (ap (λ (v : LabradorVerdict). v.number) judged.answer) ∙ zero) in
      e ∙ ap accepted (sym (ap (λ (v : LabradorVerdict). v.cells_left) (judged.answer ∙ ap labrador_verdict e)))
