-- Tests of an order as booleans.
use mathlib.Core.Path.{◌≡◌, refl, sym, ◌∙◌, ap}
use mathlib.Core.Bool.{Bool, true, false, cond}
use Prim.Native.Nat.{ℕ, ◌≤◌, ◌<◌}
use native.Mathlib.Decide.{dec_le}
use native.Mathlib.Omega.{arith}
use borrow.Author.Tests.{leb-true, leb-false}
use lib.Dec.{leb}
use Rattle.spec_leaves.specs.Answer.{Answer, fine}
use Rattle.spec_protocol.specs.Checks.{require}
use Rattle.spec_protocol.proofs.Fine.{require-holds}

-- a test of an order as a boolean
pub require-leb : (a b : ℕ) (answer : Answer) → require (dec_le a b) answer ≡ cond (leb a b) fine answer
require-leb a b answer = go (leb a b) refl (dec_le a b)
  where
    go : (t : Bool) → leb a b ≡ t → (d : Dec (a ≤ b)) → require d answer ≡ cond t fine answer
    go true e d = require-holds d answer (leb-true a b e)
    go false e (yes h) = absurd (let l : b < a = leb-false a b e in omega arith)
    go false e (no h) = refl

-- a test by the boolean's value
pub require-by : (a b : ℕ) (answer : Answer) (t : Bool) → t ≡ leb a b → require (dec_le a b) answer ≡ cond t fine answer
require-by a b answer t e = require-leb a b answer ∙ ap (λ t. cond t fine answer) (sym e)
