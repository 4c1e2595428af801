-- Honest forks and trees over the two calls, from what their contracts ensure.
use mathlib.Core.Path.{◌≡◌, sym, ap, subst, ◌∙◌}
use mathlib.Core.List.{List}
use Prim.Native.Nat.{ℕ, ◌<◌}
use lib.ListN.{length, take}
use Rattle.std.specs.Prelude.{Result, Ok}
use Rattle.spec_leaves.specs.declared.answers.Refusal.{Refusal}
use Rattle.spec_leaves.specs.declared.answers.Verdict.{Verdict}
use Rattle.spec_leaves.specs.declared.answers.Verdict.TheVariants as V'
use Rattle.spec_leaves.specs.Answer.{of_result, of_verdict}
use Rattle.spec_protocol.specs.Parameters.{parameters}
use Rattle.spec_protocol.specs.Layout.{span, transcript_sections}
use Rattle.spec_protocol.specs.Views.{witness}
use Rattle.spec_protocol.specs.Prover.{whole, prove, prove_output}
use Rattle.spec_protocol.specs.Verifier.{verify}
use Rattle.theorem_extraction.specs.Fork.{Branch, Node, Fork}
use Rattle.theorem_extraction.specs.Extracted.{extracted}
use Rattle.theorem_extraction.specs.Tree.{Place, Tree, branches, Witness}
use Rattle.theorem_extraction.specs.Honest.{Made}
use Rattle.theorem_extraction.proofs.Honest.{honest_extracts, honest-witness}

-- a call of the prover that makes a transcript of the witness, and one of the verifier that accepts the output to the length needed, with no cell left
pub record BothCalls (J W : List ℕ) : Type 0 where
  pub randomness : List ℕ
  pub scratch : List ℕ
  pub output : List ℕ
  pub exit : List ℕ
  pub answer : Result Unit Refusal
  pub answered : of_result answer ≡ prove whole J randomness W (length scratch) (length output)
  pub exits : exit ≡ prove_output whole J randomness W scratch output
  pub made : answer ≡ Ok tt
  pub scratch' : List ℕ
  pub verdict : Verdict
  pub judged : of_verdict verdict ≡ verify J randomness (take (span (transcript_sections (parameters J))) exit) (length scratch')
  pub is : verdict ≡ V'.Accepted 0

module _ {J W : List ℕ} where
  -- its transcript
  abbrev pub both_called : BothCalls J W → Branch J
  both_called B = record {
    transcript = take (span (transcript_sections (parameters J))) B.exit;
    accepted = record { randomness = B.randomness; scratch = length B.scratch'; verdict = sym B.judged ∙ ap of_verdict B.is };
  }

  made-by_calls : (B : BothCalls J W) → Made W (both_called B)
  made-by_calls B = record {
    scratch = B.scratch;
    output = B.output;
    proved = sym B.answered ∙ ap of_result B.made;
    is_output = ap (take (span (transcript_sections (parameters J)))) B.exits;
  }

  -- of branches that are given so
  made-same : {Index : Type 0} (calls : Index → BothCalls J W) (branch : Index → Branch J) → branch ≡ (λ v. both_called (calls v)) → (v : Index) → Made W (branch v)
  made-same calls branch same v = subst (λ b. Made W (b v)) (sym same) (made-by_calls (calls v))

-- a fork of such transcripts extracts the witness that was proved
pub honest_extracts_over_calls : (J W : List ℕ) (calls : Node → BothCalls J W) (F : Fork J) → F.branch ≡ (λ v. both_called (calls v))
    → (i m : ℕ) → i < (parameters J).r → m < (parameters J).n → extracted F i m ≡ witness (parameters J) W i m
honest_extracts_over_calls J W calls F same = honest_extracts J W F (λ v used. made-same calls F.branch same v)

-- a tree of them gives away that witness
pub honest-witness_over_calls : (J W : List ℕ) (calls : Place × Node → BothCalls J W) (T : Tree J) → branches T ≡ (λ v. both_called (calls v)) → Witness T
honest-witness_over_calls J W calls T same = honest-witness J W T (λ p within v used. made-same calls (branches T) same (p, v))
