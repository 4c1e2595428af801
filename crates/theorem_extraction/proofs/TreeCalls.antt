-- T5 over the verifying calls: each transcript of a tree is accepted by a call of its own, or is one of those of a call on many.
use mathlib.Core.Path.{◌≡◌, subst}
use mathlib.Core.List.{List}
use mathlib.Core.Logic.{◌⊎◌}
use Prim.Native.Nat.{ℕ}
use lib.ListN.{length}
use Rattle.spec_leaves.specs.declared.answers.Verdict.{Verdict}
use Rattle.spec_leaves.specs.declared.answers.Verdict.TheVariants as V'
use Rattle.spec_leaves.specs.Answer.{of_verdict, accepted}
use Rattle.spec_protocol.specs.Verifier.{verify}
use Rattle.spec_protocol.specs.Many.{part_verdict}
use Rattle.theorem_extraction.specs.Fork.{Branch, Node, GivesAway}
use Rattle.theorem_extraction.specs.Tree.{Place, Tree, branches, Witness}
use Rattle.theorem_extraction.proofs.Calls.{called, parts}
use Rattle.theorem_extraction.proofs.Tree.{witness}

-- T5 of a tree whose transcripts are given
pub witness_of : {J : List ℕ} (branch : Place × Node → Branch J) (T : Tree J) → branches T ≡ branch → GivesAway J branch ⊎ Witness T
witness_of {J} branch T same = subst (λ b. GivesAway J b ⊎ Witness T) same (witness J T)

-- a call for each transcript
module _ (J : List ℕ) (R X scratch : Place × Node → List ℕ) (verdict : Place × Node → Verdict)
    (judged : (v : Place × Node) → of_verdict (verdict v) ≡ verify J (R v) (X v) (length (scratch v)))
    (is : (v : Place × Node) → verdict v ≡ V'.Accepted 0) where
  pub witness_over_calls : (T : Tree J) → branches T ≡ called J R X scratch verdict judged is → GivesAway J (called J R X scratch verdict judged is) ⊎ Witness T
  witness_over_calls = witness_of (called J R X scratch verdict judged is)

-- verdicts of calls on many transcripts
module _ (J : List ℕ) (count : Place × Node → ℕ) (R X : Place × Node → List ℕ) (m : Place × Node → ℕ)
    (is : (v : Place × Node) → part_verdict J (count v) (R v) (X v) (m v) ≡ accepted 0) where
  pub witness_over_many : (T : Tree J) → branches T ≡ parts J count R X m is → GivesAway J (parts J count R X m is) ⊎ Witness T
  witness_over_many = witness_of (parts J count R X m is)
