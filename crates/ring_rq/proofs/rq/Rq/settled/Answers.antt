use mathlib.Core.Path.{◌≡◌, refl, sym, subst, ◌∙◌, ap}
use mathlib.Core.List.{List}
use Prim.Native.Nat.{ℕ, ◌%◌, ◌≤◌, ◌<◌, ◌^◌}
use native.Mathlib.Omega.{arith}
use borrow.Author.Rules.{rules}
use lib.ListN.{get_or}
use mir.Val.{Fits}
use mir.Syntax.{w32}
use Rattle.math.specs.lists.Table.{table}
use Rattle.math.proofs.lists.Table.{get_or-table}
use Rattle.ring_zq.proofs.Made.{made}
use Rattle.spec_leaves.specs.Zq.{Q}
use Rattle.spec_leaves.specs.Rq.{coeff}
use Rattle.spec_leaves.specs.Ring.{element}
use Rattle.spec_leaves.proofs.Bridge.{element_agree}
use Rattle.ring_zq.specs.Words.{lowered}
use Rattle.ring_zq.proofs.Words.{lowered-le, lowered-mod}
use Rattle.ring_rq.specs.Words.{AtMostQ}
use Rattle.ring_rq.proofs.rq.Rq.settled.Goals as goal

-- lowered words are those of the same element, up to Q
all-lowered : (a l : List ℕ) → l ≡ table 64 (λ k. lowered (coeff a k)) → ((k : ℕ) → k < 64 → coeff a k < 2 ^ 32) → (element l ≡ element a) × AtMostQ l
all-lowered a l e words = (
  element_agree l a (λ k h. ap (λ x. x % Q) (at k h) ∙ lowered-mod (coeff a k)),
  λ k h. subst (λ x. x ≤ Q) (sym (at k h)) (lowered-le (coeff a k) (words k h)),
)
  where
    at : (k : ℕ) → k < 64 → coeff l k ≡ lowered (coeff a k)
    at k h = ap (λ w. get_or w k 0) e ∙ get_or-table 64 (λ k. lowered (coeff a k)) k 0 h

pub returns-then-this-eq-LACK : goal.returns-then-this-eq-LACK
returns-then-this-eq-LACK c = let s = c.args in (refl, λ k h. let f : Fits w32 (get_or s.self.coeffs k 0) = search rules in omega arith)

pub returns : goal.returns
returns c =
    let a = c.args.self.coeffs in
    all-lowered a c.from_fn.result (made _ _ _ (λ i y q k. search rules) _ 64 c.from_fn.ensures.items) (λ k h. let f : Fits w32 (get_or a k 0) = search rules in omega arith)
