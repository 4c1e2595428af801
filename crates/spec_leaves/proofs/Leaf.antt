-- When operands are fine.
use mathlib.Core.Path.{◌≡◌, refl}
use mathlib.Core.Bool.{cond}
use mathlib.Core.List.{List, [], ◌∷◌}
use Prim.Native.Nat.{ℕ, suc, ◌+◌, ◌≤◌, ◌<◌}
use native.Mathlib.Omega.{arith}
use borrow.Author.Tests.{lt-ltb, le-ltb, ltb-false}
use lib.Dec.{ltb}
use lib.ListN.{length, get_or}
use Rattle.spec_leaves.specs.Answer.{fine, refused, below}
use Rattle.spec_leaves.specs.Leaf.{limited_by}
use Rattle.spec_leaves.proofs.Fine.{cond_not-fine}

-- words below a limit are in range
pub below-fine : (limit number place : ℕ) (ws : List ℕ) → ((k : ℕ) → k < length ws → get_or ws k 0 < limit) → below limit number place ws ≡ fine
unfolding below
below-fine limit number place [] h = refl
below-fine limit number place (w ∷ ws) h = rw (lt-ltb w limit (h 0 (omega arith))) (below-fine limit number (place + 1) ws (λ k l. h (suc k) (omega arith)))

-- a number within its limits
pub within-fine : (number least greatest place x : ℕ) → least ≤ x → x ≤ greatest → limited_by number least greatest place x ≡ fine
within-fine number least greatest place x h g = rw (le-ltb x least h, le-ltb greatest x g)

-- a number that is refused nothing is within its limits
pub limited-fine : (number least greatest place x : ℕ) → limited_by number least greatest place x ≡ fine → (least ≤ x) × (x ≤ greatest)
limited-fine number least greatest place x e =
    let low = cond_not-fine (ltb x least) (cond (ltb greatest x) (refused number place) fine) number place e in
    (ltb-false x least low.0, ltb-false greatest x (cond_not-fine (ltb greatest x) fine number place low.1).0)
