-- The same over the verifying calls, from what their contracts ensure: each transcript of a fork is accepted by a call of its own, or is one of those of a call on many.
use mathlib.Core.Path.{◌≡◌, sym, ap, subst, ◌∙◌}
use mathlib.Core.List.{List}
use mathlib.Core.Logic.{◌⊎◌}
use Prim.Native.Nat.{ℕ}
use lib.ListN.{length}
use Rattle.spec_leaves.specs.declared.answers.Verdict.{Verdict}
use Rattle.spec_leaves.specs.declared.answers.Verdict.TheVariants as V'
use Rattle.spec_leaves.specs.Answer.{of_verdict, accepted}
use Rattle.spec_protocol.specs.Parameters.{parameters}
use Rattle.spec_protocol.specs.Layout.{scratch_need}
use Rattle.spec_protocol.specs.Verifier.{verify}
use Rattle.spec_protocol.specs.Many.{randomness_part, transcript_part, part_verdict}
use Rattle.theorem_extraction.specs.Fork.{Branch, Node, Fork, GivesAway}
use Rattle.theorem_extraction.specs.Extracted.{Extracted}
use Rattle.theorem_extraction.proofs.Extraction.{extraction}

-- calls on one transcript each, all with one job: each accepts, and no cell has something left
module _ {Index : Type 0} (J : List ℕ) (R X scratch : Index → List ℕ) (verdict : Index → Verdict)
    (judged : (v : Index) → of_verdict (verdict v) ≡ verify J (R v) (X v) (length (scratch v)))
    (is : (v : Index) → verdict v ≡ V'.Accepted 0) where
  abbrev pub called : Index → Branch J
  called v = record { transcript = X v; accepted = record { randomness = R v; scratch = length (scratch v); verdict = sym (judged v) ∙ ap of_verdict (is v) } }

-- the verdict on one of many transcripts is the verifier's
pub judged-part : (J : List ℕ) (count : ℕ) (R T : List ℕ) (m : ℕ) → part_verdict J count R T m ≡ accepted 0
    → verify J (randomness_part (parameters J) count R m) (transcript_part (parameters J) count T m) (scratch_need (parameters J)) ≡ accepted 0
unfolding part_verdict
judged-part J count R T m e = e

-- verdicts of calls on many transcripts: each is an acceptance with no cell left
module _ {Index : Type 0} (J : List ℕ) (count : Index → ℕ) (R T : Index → List ℕ) (m : Index → ℕ)
    (is : (v : Index) → part_verdict J (count v) (R v) (T v) (m v) ≡ accepted 0) where
  abbrev pub parts : Index → Branch J
  parts v = record {
    transcript = transcript_part (parameters J) (count v) (T v) (m v);
    accepted = record { randomness = randomness_part (parameters J) (count v) (R v) (m v); scratch = scratch_need (parameters J); verdict = judged-part J (count v) (R v) (T v) (m v) (is v) };
  }

-- T4 of a fork whose transcripts are given so
pub extraction_of : {J : List ℕ} (branch : Node → Branch J) (F : Fork J) → F.branch ≡ branch → GivesAway J branch ⊎ Extracted F
extraction_of {J} branch F same = subst (λ b. GivesAway J b ⊎ Extracted F) same (extraction F)

module _ (J : List ℕ) (R X scratch : Node → List ℕ) (verdict : Node → Verdict)
    (judged : (v : Node) → of_verdict (verdict v) ≡ verify J (R v) (X v) (length (scratch v)))
    (is : (v : Node) → verdict v ≡ V'.Accepted 0) where
  pub extraction_over_calls : (F : Fork J) → F.branch ≡ called J R X scratch verdict judged is → GivesAway J (called J R X scratch verdict judged is) ⊎ Extracted F
  extraction_over_calls = extraction_of (called J R X scratch verdict judged is)

module _ (J : List ℕ) (count : Node → ℕ) (R T : Node → List ℕ) (m : Node → ℕ) (is : (v : Node) → part_verdict J (count v) (R v) (T v) (m v) ≡ accepted 0) where
  pub extraction_over_many : (F : Fork J) → F.branch ≡ parts J count R T m is → GivesAway J (parts J count R T m is) ⊎ Extracted F
  extraction_over_many = extraction_of (parts J count R T m is)
