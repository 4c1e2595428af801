-- Values of elements of R[X]/(X^d + 1) at a point whose d-th power is −1: the value of a product is the product of the values.
use mathlib.Core.Path.{◌≡◌, sym, ap, ap₂, ◌∙◌}
use Prim.Native.Nat.{ℕ, zero, suc, ◌+◌, ◌-◌, ◌<◌}
use native.Mathlib.Nat as Nat
use native.Mathlib.Omega.{arith}
use Rattle.math.specs.algebra.Ops.{Ops, sum}
use Rattle.math.proofs.algebra.Ring.{CRing, ring, add_cancel-left}
use Rattle.math.proofs.algebra.Sum.{sum-suc, sum_ext, sum-neg, sum-swap, sum-mul-left, sum-mul_right, sum_first}
use Rattle.math.proofs.algebra.Antiperiodic.{Antiperiodic, mul_f}

-- the value of the first d coefficients, p having the powers of the point
unfoldable pub eval : (O : Ops) → ℕ → (ℕ → O.Carrier) → (ℕ → O.Carrier) → O.Carrier
eval O d p f = sum O d (λ i. O.mul (f i) (p i))

module _ (O : Ops) (R : CRing O) (d : ℕ) where
  open O use {Carrier, add as ◌⊕◌, mul as ◌⊗◌, neg, nil, one}

  infixl 60 ◌⊕◌
  infixl 70 ◌⊗◌
  -- a run of d terms of a function with period d has the same sum wherever it starts
  window : (f : ℕ → Carrier) → ((k : ℕ) → f (k + d) ≡ f k) → (s : ℕ) → sum O d (λ k. f (k + s)) ≡ sum O d f
  window f h zero = sum_ext O d (λ k. f (k + 0)) f (λ k l. ap f (Nat.add-zero k))
  window f h (suc s) =
      sum_ext O d (λ k. f (k + suc s)) (λ k. f (k + 1 + s)) (λ k l. ap f (omega arith))
      ∙ add_cancel-left O R (f (0 + s)) (sum O d (λ k. f (k + 1 + s))) (sum O d (λ k. f (k + s)))
      (sym (sum_first O R d (λ k. f (k + s)))
      ∙ sum-suc O d (λ k. f (k + s))
      ∙ ap (λ x. sum O d (λ k. f (k + s)) ⊕ x) (ap f (turn d s) ∙ h (0 + s))
      ∙ R.add_comm (sum O d (λ k. f (k + s))) (f (0 + s)))
      ∙ window f h s
    where
      turn : (d s : ℕ) → d + s ≡ 0 + s + d
      turn d s = omega arith

  module _ (p : ℕ → Carrier) (hom : (i j : ℕ) → p (i + j) ≡ p i ⊗ p j) (anti : Antiperiodic O d p) where
    -- the value of a product
    pub eval_mul : (a b : ℕ → Carrier) → Antiperiodic O d b → eval O d p (mul_f O d a b) ≡ eval O d p a ⊗ eval O d p b
    unfolding eval mul_f
    eval_mul a b q =
        sum_ext O d (λ k. neg (sum O d (λ i. a i ⊗ b (k + (d - i)))) ⊗ p k) (λ k. sum O d (λ i. T k i)) (λ k l. row k)
        ∙ sum-swap O R d d T
        ∙ sum_ext O d (λ i. sum O d (λ k. T k i)) (λ i. a i ⊗ p i ⊗ sum O d G) (λ i l. sum-mul-left O R d (a i ⊗ p i) (λ k. G (k + (d - i))) ∙ ap (λ x. a i ⊗ p i ⊗ x) (window G period (d - i)))
        ∙ sum-mul_right O R d (sum O d G) (λ i. a i ⊗ p i)
      where
        G : ℕ → Carrier
        G k = b k ⊗ p k

        signs : (x y : Carrier) → neg x ⊗ neg y ≡ x ⊗ y
        signs x y = simp (ring, R)

        period : (k : ℕ) → G (k + d) ≡ G k
        period k = ap₂ ◌⊗◌ (q k) (anti k) ∙ signs (b k) (p k)

        T : ℕ → ℕ → Carrier
        T k i = a i ⊗ p i ⊗ G (k + (d - i))

        turned : (x y u v w : Carrier) → v ⊗ w ≡ neg u → neg (x ⊗ y) ⊗ u ≡ x ⊗ v ⊗ (y ⊗ w)
        turned x y u v w e = left x y u ∙ ap (λ z. x ⊗ y ⊗ z) (sym e) ∙ right x y v w
          where
            left : (x y u : Carrier) → neg (x ⊗ y) ⊗ u ≡ x ⊗ y ⊗ neg u
            left x y u = simp (ring, R)

            right : (x y v w : Carrier) → x ⊗ y ⊗ (v ⊗ w) ≡ x ⊗ v ⊗ (y ⊗ w)
            right x y v w = simp (ring, R)

        whole : (i k : ℕ) → i < d → i + (k + (d - i)) ≡ k + d
        whole i k l = omega arith

        term : (k i : ℕ) → i < d → neg (a i ⊗ b (k + (d - i))) ⊗ p k ≡ T k i
        term k i l = turned (a i) (b (k + (d - i))) (p k) (p i) (p (k + (d - i))) (sym (hom i (k + (d - i))) ∙ ap p (whole i k l) ∙ anti k)

        row : (k : ℕ) → neg (sum O d (λ i. a i ⊗ b (k + (d - i)))) ⊗ p k ≡ sum O d (λ i. T k i)
        row k =
            ap (λ x. x ⊗ p k) (sym (sum_neg' (λ i. a i ⊗ b (k + (d - i)))))
            ∙ sym (sum-mul_right O R d (p k) (λ i. neg (a i ⊗ b (k + (d - i)))))
            ∙ sum_ext O d (λ i. neg (a i ⊗ b (k + (d - i))) ⊗ p k) (λ i. T k i) (term k)
          where
            sum_neg' : (f : ℕ → Carrier) → sum O d (λ i. neg (f i)) ≡ neg (sum O d f)
            sum_neg' f = sum-neg O R d f

    -- the value of a sum
    pub eval_sum : (n : ℕ) (c : ℕ → ℕ → Carrier) → eval O d p (λ i. sum O n (λ m. c m i)) ≡ sum O n (λ m. eval O d p (c m))
    unfolding eval
    eval_sum n c =
        sum_ext O d (λ i. sum O n (λ m. c m i) ⊗ p i) (λ i. sum O n (λ m. c m i ⊗ p i)) (λ i l. sym (sum-mul_right O R n (p i) (λ m. c m i)))
        ∙ sum-swap O R d n (λ i m. c m i ⊗ p i)
