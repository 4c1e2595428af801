-- When two runs of words are the same.
use mathlib.Core.Path.{◌≡◌, refl, sym, ap, ap₂, ◌∙◌}
use mathlib.Core.Bool.{Bool, true, false, true≢false, decide, cond}
use mathlib.Core.List.{List, List-discrete}
use Prim.Native.Nat.{ℕ, ◌+◌, ◌-◌}
use native.Mathlib.Decide.{ℕ_discrete}
use native.Mathlib.Omega.{arith}
use lib.Dec.{eqb}
use lib.ListN.{take, drop}
use lib.Pointwise.{pointwise, bytes_decides}
use Rattle.math.specs.lists.Part.{part}
use Rattle.spec_leaves.specs.Answer.{Answer, fine}
use Rattle.spec_leaves.proofs.Cases.{decided, not_decided}
use Rattle.spec_protocol.specs.Checks.{require}
use Rattle.verifier_common.specs.Work.{equal}

-- a test by what is decided
require_decided {ℓ} : {A : Type ℓ} (d : Dec A) (answer : Answer) → require d answer ≡ cond (decide d) fine answer
unfolding decide
require_decided (yes a) answer = refl
require_decided (no n) answer = refl

-- a test that two lists are the same, by the boolean's value
pub require-equal : (a b : List ℕ) (answer : Answer) (t : Bool) → t ≡ equal a b → require (List-discrete ℕ_discrete a b) answer ≡ cond t fine answer
require-equal a b answer t e = require_decided (List-discrete ℕ_discrete a b) answer ∙ ap (λ t. cond t fine answer) (sym e)

-- what `==` answers of two lists of words
pub same_lists : (a b : List ℕ) → pointwise eqb a b ≡ equal a b
same_lists a b = go (pointwise eqb a b) refl
  where
    go : (t : Bool) → pointwise eqb a b ≡ t → t ≡ equal a b
    go true e = sym (decided (List-discrete ℕ_discrete a b) ((bytes_decides a b).0 e))
    go false e = sym (not_decided (List-discrete ℕ_discrete a b) (λ h. true≢false (sym ((bytes_decides a b).1 h) ∙ e)))

-- of two runs of them
pub same_runs : (x y : List ℕ) (i j n : ℕ) → pointwise eqb (take (i + n - i) (drop i x)) (take (j + n - j) (drop j y)) ≡ equal (part x i n) (part y j n)
same_runs x y i j n =
    let e : i + n - i ≡ n = omega arith in
    let f : j + n - j ≡ n = omega arith in
    ap₂ (pointwise eqb) (ap (λ m. take m (drop i x)) e) (ap (λ m. take m (drop j y)) f) ∙ same_lists (part x i n) (part y j n)
