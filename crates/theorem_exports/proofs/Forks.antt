-- What a fork (T4) and a tree (T5) of accepted transcripts give away or extract, over the verdicts of `labrador_verify`: each transcript is accepted by a call of its own.
use mathlib.Core.Path.{◌≡◌, sym, ap, ◌∙◌}
use mathlib.Core.List.{List}
use mathlib.Core.Logic.{◌⊎◌}
use Prim.Native.Nat.{ℕ}
use lib.ListN.{length}
use Rattle.spec_leaves.specs.Answer.{accepted}
use Rattle.spec_protocol.specs.Verifier.{verify}
use Rattle.spec_protocol.proofs.Acceptance.{zero_accepts}
use Rattle.api_answers.specs.declared.verdicts.LabradorVerdict.{LabradorVerdict}
use Rattle.api_answers.specs.Calls.{labrador_verdict}
use Rattle.api_answers.proofs.Number.{same_number}
use Rattle.theorem_extraction.specs.Fork.{Branch, Node, Fork, GivesAway}
use Rattle.theorem_extraction.specs.Extracted.{Extracted}
use Rattle.theorem_extraction.specs.Tree.{Place, Tree, branches, Witness}
use Rattle.theorem_extraction.proofs.Calls.{extraction_of}
use Rattle.theorem_extraction.proofs.TreeCalls.{witness_of}

-- a verdict with the number 0 and no cell left is an acceptance without one
pub none_left : (J R X : List ℕ) (lent : ℕ) (x : LabradorVerdict) → x ≡ labrador_verdict (verify J R X lent) → x.number ≡ 0 → x.cells_left ≡ 0 → verify J R X lent ≡ accepted 0
none_left J R X lent x is zero none =
    let found = zero_accepts J R X lent (sym (same_number (verify J R X lent)) ∙ sym (ap (λ (x : LabradorVerdict). x.number) is) ∙ zero) in
    found.1 ∙ ap accepted (sym (ap (λ (x : LabradorVerdict). x.cells_left) (is ∙ ap labrador_verdict found.1)) ∙ none)

-- calls on one transcript each, all with one job: each accepts, and no cell has something left
module _ {Index : Type 0} (J : List ℕ) (R X scratch : Index → List ℕ) (x : Index → LabradorVerdict)
    (is : (v : Index) → x v ≡ labrador_verdict (verify J (R v) (X v) (length (scratch v))))
    (zero : (v : Index) → (x v).number ≡ 0)
    (none : (v : Index) → (x v).cells_left ≡ 0) where
  abbrev pub verified : Index → Branch J
  verified v = record {
    transcript = X v;
    accepted = record { randomness = R v; scratch = length (scratch v); verdict = none_left J (R v) (X v) (length (scratch v)) (x v) (is v) (zero v) (none v) };
  }

module _ (J : List ℕ) (R X scratch : Node → List ℕ) (x : Node → LabradorVerdict)
    (is : (v : Node) → x v ≡ labrador_verdict (verify J (R v) (X v) (length (scratch v))))
    (zero : (v : Node) → (x v).number ≡ 0)
    (none : (v : Node) → (x v).cells_left ≡ 0) where
  pub extraction_over_verify : (F : Fork J) → F.branch ≡ verified J R X scratch x is zero none → GivesAway J (verified J R X scratch x is zero none) ⊎ Extracted F
  extraction_over_verify = extraction_of (verified J R X scratch x is zero none)

module _ (J : List ℕ) (R X scratch : Place × Node → List ℕ) (x : Place × Node → LabradorVerdict)
    (is : (v : Place × Node) → x v ≡ labrador_verdict (verify J (R v) (X v) (length (scratch v))))
    (zero : (v : Place × Node) → (x v).number ≡ 0)
    (none : (v : Place × Node) → (x v).cells_left ≡ 0) where
  pub witness_over-verify : (T : Tree J) → branches T ≡ verified J R X scratch x is zero none → GivesAway J (verified J R X scratch x is zero none) ⊎ Witness T
  witness_over-verify = witness_of (verified J R X scratch x is zero none)
