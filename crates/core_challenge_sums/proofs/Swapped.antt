-- The order of summation of Σ⟨φ_i,z⟩·c_i, in any commutative ring.
use mathlib.Core.Path.{◌≡◌, refl, sym, ap, ap₂, ◌∙◌}
use Prim.Native.Nat.{ℕ}
use Rattle.math.specs.algebra.Ops.{Ops, sum, dot, comb}
use Rattle.math.proofs.algebra.Ring.{CRing, ring, add-mul}
use Rattle.math.proofs.algebra.Sum.{sum_ext, sum-add, sum-mul_right, sum-swap}
use Rattle.math.proofs.algebra.Dot.{dot_ext, dot_comm, dot-add-left, dot-comb-left, dot-comb_right}

module _ (O : Ops) (R : CRing O) where
  open O use {Carrier, add as ◌⊕◌, mul as ◌⊗◌}

  infixl 60 ◌⊕◌
  infixl 70 ◌⊗◌
  -- Σ_k ⟨z, Σ_i c_i x_k,i⟩ w_k = Σ_i ⟨Σ_k w_k x_k,i, z⟩ c_i
  pub lines_swapped : (K r n : ℕ) (w c z : ℕ → Carrier) (x : ℕ → ℕ → ℕ → Carrier)
      → sum O K (λ k. dot O n z (λ m. dot O r (λ i. x k i m) c) ⊗ w k) ≡ sum O r (λ i. dot O n (λ m. dot O K w (λ k. x k i m)) z ⊗ c i)
  unfolding dot comb
  lines_swapped K r n w c z x =
      sum_ext O K (λ k. dot O n z (λ m. dot O r (λ i. x k i m) c) ⊗ w k) (λ k. sum O r (λ i. w k ⊗ dot O n (x k i) z ⊗ c i)) (λ k l. row k)
      ∙ sum-swap O R K r (λ k i. w k ⊗ dot O n (x k i) z ⊗ c i)
      ∙ sum_ext O r (λ i. sum O K (λ k. w k ⊗ dot O n (x k i) z ⊗ c i)) (λ i. dot O n (λ m. dot O K w (λ k. x k i m)) z ⊗ c i) (λ i l.
      sum-mul_right O R K (c i) (λ k. w k ⊗ dot O n (x k i) z) ∙ ap (λ s. s ⊗ c i) (sym (dot-comb-left O R n K w (λ k. x k i) z)))
    where
      order : (c d w : Carrier) → c ⊗ d ⊗ w ≡ w ⊗ d ⊗ c
      order c d w = simp (ring, R)

      row : (k : ℕ) → dot O n z (λ m. dot O r (λ i. x k i m) c) ⊗ w k ≡ sum O r (λ i. w k ⊗ dot O n (x k i) z ⊗ c i)
      row k =
          ap (λ s. s ⊗ w k)
          (dot_ext O n z z (λ m. dot O r (λ i. x k i m) c) (comb O r c (x k)) (λ m l. refl) (λ m l. dot_comm O R r (λ i. x k i m) c) ∙ dot-comb_right O R n r c z (x k))
          ∙ sym (sum-mul_right O R r (w k) (λ i. c i ⊗ dot O n z (x k i)))
          ∙ sum_ext O r (λ i. c i ⊗ dot O n z (x k i) ⊗ w k) (λ i. w k ⊗ dot O n (x k i) z ⊗ c i) (λ i l. order (c i) (dot O n z (x k i)) (w k) ∙ ap (λ d. w k ⊗ d ⊗ c i) (dot_comm O R n z (x k i)))

  -- of two kinds of constraints together
  pub both_swapped : (K L r n : ℕ) (v w c z : ℕ → Carrier) (x y : ℕ → ℕ → ℕ → Carrier)
      → sum O K (λ k. dot O n z (λ m. dot O r (λ i. x k i m) c) ⊗ v k) ⊕ sum O L (λ k. dot O n z (λ m. dot O r (λ i. y k i m) c) ⊗ w k)
      ≡ sum O r (λ i. dot O n (λ m. dot O K v (λ k. x k i m) ⊕ dot O L w (λ k. y k i m)) z ⊗ c i)
  both_swapped K L r n v w c z x y =
      ap₂ ◌⊕◌ (lines_swapped K r n v c z x) (lines_swapped L r n w c z y)
      ∙ sym (sum-add O R r (λ i. dot O n (first i) z ⊗ c i) (λ i. dot O n (second i) z ⊗ c i))
      ∙ sum_ext O r (λ i. dot O n (first i) z ⊗ c i ⊕ dot O n (second i) z ⊗ c i) (λ i. dot O n (λ m. first i m ⊕ second i m) z ⊗ c i) (λ i l.
      sym (add-mul O R (dot O n (first i) z) (dot O n (second i) z) (c i)) ∙ ap (λ s. s ⊗ c i) (sym (dot-add-left O R n (first i) (second i) z)))
    where
      first : ℕ → ℕ → Carrier
      first i m = dot O K v (λ k. x k i m)

      second : ℕ → ℕ → Carrier
      second i m = dot O L w (λ k. y k i m)
