-- Challenges and vectors of a fork's transcripts, as steps from those of its first.
use mathlib.Core.Path.{◌≡◌, sym, ap, ap₂, ◌∙◌}
use mathlib.Core.Bool.{cond}
use Prim.Native.Nat.{ℕ}
use native.Mathlib.Decide.{ℕ_discrete}
use lib.Dec.{eqb}
use borrow.Author.Tests.{eq-eqb, ne_eqb}
use Rattle.math.specs.algebra.Ops.{Ops}
use Rattle.math.proofs.algebra.Ring.{CRing, ring, add_left_comm, mul_left_comm, add-neg, add-nil, one-mul, eq_of_sub_nil}
use Rattle.theorem_extraction.proofs.Steps.{step, one_at}

module _ (O : Ops) (R : CRing O) where
  open O use {Carrier, add as ◌⊕◌, mul as ◌⊗◌, neg, nil, one}

  infixl 60 ◌⊕◌
  infixl 70 ◌⊗◌
  -- no step, one of the two steps
  pub step-none : (f f₁ f₂ : ℕ → Carrier) (k : ℕ) → f k ≡ step O f f₁ f₂ nil nil k
  unfolding step
  step-none f f₁ f₂ k = out (f k) (f₁ k) (f₂ k)
    where
      out : (a b c : Carrier) → a ≡ a ⊕ nil ⊗ b ⊕ nil ⊗ c
      out a b c = simp (ring, R)

  pub step-first : (f f₁ f₂ : ℕ → Carrier) (δ : Carrier) (k : ℕ) → f k ⊕ δ ⊗ f₁ k ≡ step O f f₁ f₂ δ nil k
  unfolding step
  step-first f f₁ f₂ δ k = out (f k ⊕ δ ⊗ f₁ k) (f₂ k)
    where
      out : (a c : Carrier) → a ≡ a ⊕ nil ⊗ c
      out a c = simp (ring, R)

  pub step-second : (f f₁ f₂ : ℕ → Carrier) (ε : Carrier) (k : ℕ) → f k ⊕ ε ⊗ f₂ k ≡ step O f f₁ f₂ nil ε k
  unfolding step
  step-second f f₁ f₂ ε k = out (f k) (f₁ k) (ε ⊗ f₂ k)
    where
      out : (a b c : Carrier) → a ⊕ c ≡ a ⊕ nil ⊗ b ⊕ c
      out a b c = simp (ring, R)

  -- c with c_i → x is c with (x − c_i)·1 added at i
  pub one-changed : (c : ℕ → Carrier) (i : ℕ) (x : Carrier) (k : ℕ) → cond (eqb k i) x (c k) ≡ c k ⊕ (x ⊕ neg (c i)) ⊗ one_at O i k
  unfolding one_at
  one-changed c i x k = go (ℕ_discrete k i)
    where
      there : (a x : Carrier) → x ≡ a ⊕ (x ⊕ neg a) ⊗ one
      there a x = simp (ring, R) (sym (add_left_comm O R a x (neg a) ∙ ap (λ y. x ⊕ y) (add-neg O R a) ∙ add-nil O R x))

      elsewhere : (a d : Carrier) → a ≡ a ⊕ d ⊗ nil
      elsewhere a d = simp (ring, R)

      go : Dec (k ≡ i) → cond (eqb k i) x (c k) ≡ c k ⊕ (x ⊕ neg (c i)) ⊗ cond (eqb k i) one nil
      go (yes e) = ap (λ b. cond b x (c k)) (eq-eqb k i e) ∙ there (c k) x ∙ ap₂ (λ j b. c k ⊕ (x ⊕ neg (c j)) ⊗ cond b one nil) e (sym (eq-eqb k i e))
      go (no d) = ap (λ b. cond b x (c k)) (ne_eqb k i d) ∙ elsewhere (c k) (x ⊕ neg (c i)) ∙ ap (λ b. c k ⊕ (x ⊕ neg (c i)) ⊗ cond b one nil) (sym (ne_eqb k i d))

  -- d·(f·e) = e where d·f = 1
  pub divided : (d f e : Carrier) → d ⊗ f ≡ one → d ⊗ (f ⊗ e) ≡ e
  divided d f e p = sym (R.mul_assoc d f e) ∙ ap (λ x. x ⊗ e) p ∙ one-mul O R e

  -- z + (z' − z) = z'
  pub added : (z z' : Carrier) → z ⊕ (z' ⊕ neg z) ≡ z'
  added z z' = add_left_comm O R z z' (neg z) ∙ ap (λ x. z' ⊕ x) (add-neg O R z) ∙ add-nil O R z'

  -- z' = z + d·s where s = f·(z' − z) and d·f = 1
  pub one-step : (d f z z' : Carrier) → d ⊗ f ≡ one → z' ≡ z ⊕ d ⊗ (f ⊗ (z' ⊕ neg z))
  one-step d f z z' p = sym (ap (λ x. z ⊕ x) (divided d f (z' ⊕ neg z) p) ∙ added z z')

  -- z'' = z + d'·s where d'·(z' − z) = d·(z'' − z)
  pub other_step : (d d' f z z' z'' : Carrier) → d ⊗ f ≡ one → d' ⊗ (z' ⊕ neg z) ≡ d ⊗ (z'' ⊕ neg z) → z'' ≡ z ⊕ d' ⊗ (f ⊗ (z' ⊕ neg z))
  other_step d d' f z z' z'' p e =
      sym (ap (λ x. z ⊕ x) (mul_left_comm O R d' f (z' ⊕ neg z) ∙ ap (λ x. f ⊗ x) e ∙ mul_left_comm O R f d (z'' ⊕ neg z) ∙ divided d f (z'' ⊕ neg z) p) ∙ added z z'')

  -- z''' = z + (z' − z) + (z'' − z) where z''' − z' − z'' + z = 0
  pub both-steps : (z z' z'' z''' : Carrier) → z''' ⊕ neg z' ⊕ neg z'' ⊕ z ≡ nil → z''' ≡ z ⊕ (z' ⊕ neg z) ⊕ (z'' ⊕ neg z)
  both-steps z z' z'' z''' e = eq_of_sub_nil O R z''' (z ⊕ (z' ⊕ neg z) ⊕ (z'' ⊕ neg z)) (ap (λ x. z''' ⊕ neg x) (ap (λ x. x ⊕ (z'' ⊕ neg z)) (added z z')) ∙ out z z' z'' z''' ∙ e)
    where
      out : (a b c d : Carrier) → d ⊕ neg (b ⊕ (c ⊕ neg a)) ≡ d ⊕ neg b ⊕ neg c ⊕ a
      out a b c d = simp (ring, R)
