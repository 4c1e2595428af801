-- A weighted sum with something added to one weight: where the error of that weight is not 0, of 129 weights at most one lets the sum vanish.
use mathlib.Core.Path.{◌≡◌, refl, sym, ap, ◌∙◌}
use mathlib.Core.Bool.{Bool, true, false, cond}
use Prim.Native.Nat.{ℕ, ◌<◌}
use native.Mathlib.Decide.{ℕ_discrete}
use borrow.Author.Tests.{eq-eqb, ne_eqb}
use lib.Dec.{eqb}
use Rattle.math.proofs.algebra.Ring.{add-mul, nil-mul, neg-mul, add_cancel-left}
use Rattle.math.proofs.algebra.Sum.{sum_ext, sum-add, sum_single}
use Rattle.spec_leaves.specs.Rq.{Element}
use Rattle.spec_leaves.specs.Ring.{RqOps}
use Rattle.spec_leaves.proofs.RqRing.{rq_ring}
use Rattle.spec_protocol.specs.Formulas.{◌⊕◌, ◌⊗◌, sum}
use Rattle.theorem_soundness.specs.Weights.{shift, shifted, OneWeightAtMost}
use Rattle.theorem_soundness.proofs.Units.{unit_cancel}
use Rattle.theorem_soundness.proofs.Monomials.{difference-unit}

-- the weighted sum with v added to weight k
shifted_sum : (n : ℕ) (w ε : ℕ → Element) (k : ℕ) (v : Element) → k < n → sum n (λ i. shifted w k v i ⊗ ε i) ≡ sum n (λ i. w i ⊗ ε i) ⊕ v ⊗ ε k
unfolding shifted
shifted_sum n w ε k v h =
    sum_ext RqOps n (λ i. cond (eqb i k) (w i ⊕ v) (w i) ⊗ ε i) (λ i. w i ⊗ ε i ⊕ only i) (λ i l. term i (eqb i k))
    ∙ sum-add RqOps rq_ring n (λ i. w i ⊗ ε i) only
    ∙ ap (λ x. sum n (λ i. w i ⊗ ε i) ⊕ x)
    (sum_single RqOps rq_ring n k only h (λ i l d. ap (λ c. cond c v RqOps.nil ⊗ ε i) (ne_eqb i k d) ∙ nil-mul RqOps rq_ring (ε i))
    ∙ ap (λ c. cond c v RqOps.nil ⊗ ε k) (eq-eqb k k refl))
  where
    only : ℕ → Element
    only i = cond (eqb i k) v RqOps.nil ⊗ ε i

    term : (i : ℕ) (c : Bool) → cond c (w i ⊕ v) (w i) ⊗ ε i ≡ w i ⊗ ε i ⊕ cond c v RqOps.nil ⊗ ε i
    term i true = add-mul RqOps rq_ring (w i) v (ε i)
    term i false = sym (ap (λ x. w i ⊗ ε i ⊕ x) (nil-mul RqOps rq_ring (ε i)) ∙ rq_ring.add-nil (w i ⊗ ε i))

-- T3: where error k is not 0, at most one of the 129 weights
pub one_weight-at_most : (n : ℕ) (w ε : ℕ → Element) (k : ℕ) → k < n → (ε k ≡ RqOps.nil → ⊥) → OneWeightAtMost n w ε k
one_weight-at_most n w ε k h bad x y a b p q = go (ℕ_discrete x y)
  where
    -- both weights give k the same product
    same : shift x ⊗ ε k ≡ shift y ⊗ ε k
    same = add_cancel-left RqOps rq_ring (sum n (λ i. w i ⊗ ε i)) (shift x ⊗ ε k) (shift y ⊗ ε k) (sym (shifted_sum n w ε k (shift x) h) ∙ p ∙ sym q ∙ shifted_sum n w ε k (shift y) h)

    vanishes : (shift x ⊕ RqOps.neg (shift y)) ⊗ ε k ≡ RqOps.nil
    vanishes =
        add-mul RqOps rq_ring (shift x) (RqOps.neg (shift y)) (ε k)
        ∙ ap (λ z. z ⊕ RqOps.neg (shift y) ⊗ ε k) same
        ∙ ap (λ z. shift y ⊗ ε k ⊕ z) (neg-mul RqOps rq_ring (shift y) (ε k))
        ∙ rq_ring.add-neg (shift y ⊗ ε k)

    go : Dec (x ≡ y) → x ≡ y
    go (yes e) = e
    go (no d) = absurd (bad (unit_cancel RqOps rq_ring (shift x ⊕ RqOps.neg (shift y)) (ε k) (difference-unit x y a b d) vanishes))
