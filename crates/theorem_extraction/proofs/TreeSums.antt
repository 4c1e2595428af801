-- Weighted sums in a commutative ring at two choices of the weights that differ in one entry by a unit.
use mathlib.Core.Path.{◌≡◌, refl, sym, ap, ap₂, ◌∙◌}
use Prim.Native.Nat.{ℕ, ◌<◌}
use Rattle.math.specs.algebra.Ops.{Ops, dot}
use Rattle.math.proofs.algebra.Ring.{CRing, ring, nil-mul, add_cancel_right}
use Rattle.math.proofs.algebra.Sum.{sum_single}
use Rattle.math.proofs.algebra.Dot.{dot_ext, dot-add-left, dot-neg-left}
use Rattle.theorem_soundness.proofs.Units.{unit_cancel}
use Rattle.theorem_extraction.specs.Tree.{DifferAt}

module _ (O : Ops) (R : CRing O) where
  open O use {Carrier, add as ◌⊕◌, mul as ◌⊗◌, neg, nil}

  infixl 60 ◌⊕◌
  infixl 70 ◌⊗◌
  -- two weighted sums of the same values are equal: the value at the entry in which the weights differ is 0
  zero_at : (n k : ℕ) (v w e : ℕ → Carrier) → k < n → DifferAt O n k v w → dot O n v e ≡ dot O n w e → e k ≡ nil
  unfolding dot
  zero_at n k v w e h differ same = unit_cancel O R (v k ⊕ neg (w k)) (e k) differ.unit (
      sym (sum_single O R n k (λ i. (v i ⊕ neg (w i)) ⊗ e i) h (λ i l d. ap (λ x. (x ⊕ neg (w i)) ⊗ e i) (differ.others i l d) ∙ ap (λ x. x ⊗ e i) (R.add-neg (w i)) ∙ nil-mul O R (e i)))
      ∙ dot-add-left O R n v (λ i. neg (w i)) e
      ∙ ap₂ ◌⊕◌ same (dot-neg-left O R n w e)
      ∙ R.add-neg (dot O n w e))

  -- p + s = q + t gives (p − q) + (s − t) = 0
  pub balance : (p q s t : Carrier) → p ⊕ s ≡ q ⊕ t → p ⊕ neg q ⊕ (s ⊕ neg t) ≡ nil
  balance p q s t e = regroup p q s t ∙ ap (λ x. x ⊕ neg (q ⊕ t)) e ∙ R.add-neg (q ⊕ t)
    where
      regroup : (p q s t : Carrier) → p ⊕ neg q ⊕ (s ⊕ neg t) ≡ p ⊕ s ⊕ neg (q ⊕ t)
      regroup p q s t = simp (ring, R)

  -- of two weighted sums, where the weights of one differ in one entry and those of the other are the same, the value at that entry is 0
  pub record ZeroWhere (n m : ℕ) (v w e v' w' e' : ℕ → Carrier) : Type 0 where
    pub first_differ : (k : ℕ) → k < n → DifferAt O n k v w → ((i : ℕ) → i < m → v' i ≡ w' i) → e k ≡ nil
    pub second_differ : (k : ℕ) → k < m → ((i : ℕ) → i < n → v i ≡ w i) → DifferAt O m k v' w' → e' k ≡ nil

  -- where the first differ
  first_zero : (n m k : ℕ) (v w e f v' w' e' f' : ℕ → Carrier) → k < n
      → DifferAt O n k v w
      → ((i : ℕ) → i < n → e i ≡ f i)
      → ((i : ℕ) → i < m → v' i ≡ w' i)
      → ((i : ℕ) → i < m → e' i ≡ f' i)
      → dot O n v e ⊕ dot O m v' e' ≡ nil
      → dot O n w f ⊕ dot O m w' f' ≡ nil
      → e k ≡ nil
  first_zero n m k v w e f v' w' e' f' h differ values weights values' p q =
      zero_at n k v w e h differ
      (add_cancel_right O R (dot O m v' e') (dot O n v e) (dot O n w e)
      (p ∙ sym q ∙ sym (ap₂ ◌⊕◌ (dot_ext O n w w e f (λ i l. refl) values) (dot_ext O m v' w' e' f' weights values'))))

  -- the two sums vanish together at both choices of the weights, of the same values
  pub zero_where : (n m : ℕ) (v w e f v' w' e' f' : ℕ → Carrier)
      → ((i : ℕ) → i < n → e i ≡ f i)
      → ((i : ℕ) → i < m → e' i ≡ f' i)
      → dot O n v e ⊕ dot O m v' e' ≡ nil
      → dot O n w f ⊕ dot O m w' f' ≡ nil
      → ZeroWhere n m v w e v' w' e'
  zero_where n m v w e f v' w' e' f' values values' p q = record {
    first_differ = λ k h differ weights. first_zero n m k v w e f v' w' e' f' h differ values weights values' p q;
    second_differ = λ k h weights differ.
        first_zero m n k v' w' e' f' v w e f h differ values' weights values (R.add_comm (dot O m v' e') (dot O n v e) ∙ p) (R.add_comm (dot O m w' f') (dot O n w f) ∙ q);
  }
