-- What is found of a slice against a table, and of a buffer's length.
use mathlib.Core.Path.{◌≡◌, sym, ap, ◌∙◌}
use mathlib.Core.List.{List}
use Prim.Native.Nat.{ℕ, ◌≤◌, ◌<◌}
use native.Mathlib.Decide.{dec_le}
use native.Mathlib.Omega.{arith}
use Rattle.spec_leaves.specs.Answer.{Answer, fine, refused, ◌then◌}
use Rattle.spec_protocol.specs.Checks.{require}
use Rattle.spec_protocol.specs.Layout.{Section, layout, ranged}
use Rattle.spec_protocol.proofs.Fine.{require-holds, require_fails}

-- what is found of a slice against a table, whose sections are those listed
pub examined : (a b : ℕ) (words : List ℕ) (place : ℕ) {ts ss : List Section} {z : Answer} → ts ≡ ss
    → z ≡ layout a words place ts then ranged b words place ts → z ≡ layout a words place ss then ranged b words place ss
examined a b words place lists found = found ∙ ap (λ l. layout a words place l then ranged b words place l) lists

module _ (number lent need : ℕ) {needed : ℕ} (e : need ≡ needed) where
  -- a buffer that is too short
  pub too_short : lent < need → refused number need ≡ require (dec_le needed lent) (refused number needed)
  too_short h = sym (require_fails (dec_le need lent) (refused number need) (λ g. omega arith)) ∙ ap (λ n. require (dec_le n lent) (refused number n)) e

  -- a buffer that is long enough
  pub long_enough : need ≤ lent → fine ≡ require (dec_le needed lent) (refused number needed)
  long_enough h = sym (require-holds (dec_le needed lent) (refused number needed) (omega arith))
