-- What a fork (T4) and a tree (T5) of accepted transcripts give away or extract, over verdicts that the call's contract ensures: each transcript is one of those of a call.
use mathlib.Core.Path.{◌≡◌}
use mathlib.Core.List.{List}
use mathlib.Core.Logic.{◌⊎◌}
use Prim.Native.Nat.{ℕ, ◌<◌}
use lib.ListN.{length}
use Rattle.theorem_extraction.specs.Fork.{Branch, Node, Fork, GivesAway}
use Rattle.theorem_extraction.specs.Extracted.{Extracted}
use Rattle.theorem_extraction.specs.Tree.{Place, Tree, branches, Witness}
use Rattle.theorem_extraction.proofs.Calls.{parts, extraction_of}
use Rattle.theorem_extraction.proofs.TreeCalls.{witness_of}
use Rattle.verify_many.specs.declared.answers.LabradorVerdicts.{LabradorVerdicts}
use Rattle.verify_many.specs.Answers.{many_verdicts}
use Rattle.theorem_exports.proofs.ManyOpenings.{verdict_at, none-left_of}

-- calls on many transcripts, all with one job, and one verdict of each: accepted, with no cell left
module _ {Index : Type 0} (J : List ℕ) (count : Index → ℕ) (R T scratch : Index → List ℕ) (x : Index → LabradorVerdicts)
    (is : (v : Index) → x v ≡ many_verdicts J (count v) (R v) (T v) (length (scratch v)))
    (whole : (v : Index) → (x v).number ≡ 0)
    (m : Index → ℕ)
    (below : (v : Index) → m v < 8)
    (zero : (v : Index) → (verdict_at (x v) (m v)).number ≡ 0)
    (none : (v : Index) → (verdict_at (x v) (m v)).cells_left ≡ 0) where
  abbrev pub judged : Index → Branch J
  judged = parts J count R T m (λ v. none-left_of J (count v) (R v) (T v) (scratch v) (x v) (is v) (whole v) (m v) (below v) (zero v) (none v))

module _ (J : List ℕ) (count : Node → ℕ) (R T scratch : Node → List ℕ) (x : Node → LabradorVerdicts)
    (is : (v : Node) → x v ≡ many_verdicts J (count v) (R v) (T v) (length (scratch v)))
    (whole : (v : Node) → (x v).number ≡ 0)
    (m : Node → ℕ)
    (below : (v : Node) → m v < 8)
    (zero : (v : Node) → (verdict_at (x v) (m v)).number ≡ 0)
    (none : (v : Node) → (verdict_at (x v) (m v)).cells_left ≡ 0) where
  pub extraction_over_many : (F : Fork J) → F.branch ≡ judged J count R T scratch x is whole m below zero none
      → GivesAway J (judged J count R T scratch x is whole m below zero none) ⊎ Extracted F
  extraction_over_many = extraction_of (judged J count R T scratch x is whole m below zero none)

module _ (J : List ℕ) (count : Place × Node → ℕ) (R X scratch : Place × Node → List ℕ) (x : Place × Node → LabradorVerdicts)
    (is : (v : Place × Node) → x v ≡ many_verdicts J (count v) (R v) (X v) (length (scratch v)))
    (whole : (v : Place × Node) → (x v).number ≡ 0)
    (m : Place × Node → ℕ)
    (below : (v : Place × Node) → m v < 8)
    (zero : (v : Place × Node) → (verdict_at (x v) (m v)).number ≡ 0)
    (none : (v : Place × Node) → (verdict_at (x v) (m v)).cells_left ≡ 0) where
  pub witness_over_many : (T : Tree J) → branches T ≡ judged J count R X scratch x is whole m below zero none
      → GivesAway J (judged J count R X scratch x is whole m below zero none) ⊎ Witness T
  witness_over_many = witness_of (judged J count R X scratch x is whole m below zero none)
