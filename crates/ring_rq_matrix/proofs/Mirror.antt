-- Sums over a symmetric matrix by the rows of its triangle.
use mathlib.Core.Path.{◌≡◌, refl, ap, ap₂, ◌∙◌}
use Prim.Native.Nat.{ℕ, ◌+◌}
use native.Mathlib.Nat.{le_refl}
use native.Mathlib.Omega.{arith}
use Rattle.math.specs.algebra.Ops.{Ops, sum, dot, pairs}
use Rattle.math.proofs.algebra.Ring.{CRing, ring}
use Rattle.math.proofs.algebra.Sum.{sum_ext, sum-add, sum-mul_right}
use Rattle.math.proofs.algebra.Dot.{dot_ext}
use Rattle.math.proofs.algebra.Form.{pairs-triangle}
use Rattle.spec_protocol.specs.Parameters.{triangular}
use Rattle.spec_protocol.specs.Views.{cell}
use Rattle.spec_protocol.proofs.Flat.{cell_lower}
use Rattle.ring_rq_matrix.proofs.Place.{cell_mirrored}

module _ (O : Ops) (R : CRing O) where
  open O use {Carrier, add as ◌⊕◌, mul as ◌⊗◌}

  infixl 60 ◌⊕◌
  infixl 70 ◌⊗◌
  -- a sum over all pairs whose terms are the same mirrored: in each row the terms left of the diagonal twice, and the diagonal's
  pub pairs_mirrored : (r : ℕ) (f : ℕ → ℕ → Carrier) → ((i j : ℕ) → f i j ≡ f j i) → pairs O r f ≡ sum O r (λ i. sum O i (f i) ⊕ sum O i (f i) ⊕ f i i)
  pairs_mirrored r f mirrored =
      pairs-triangle O R r f
      ∙ sum_ext O r (λ i. sum O i (λ j. f i j ⊕ f j i) ⊕ f i i) (λ i. sum O i (f i) ⊕ sum O i (f i) ⊕ f i i)
      (λ i l. ap (λ x. x ⊕ f i i) (sum-add O R i (f i) (λ j. f j i) ∙ ap (λ x. sum O i (f i) ⊕ x) (sum_ext O i (λ j. f j i) (f i) (λ j m. mirrored j i))))

  -- Σ x_ij·y_ij of a triangle and of what is the same mirrored
  pub triangle-by-rows : (r : ℕ) (x : ℕ → Carrier) (y : ℕ → ℕ → Carrier) → ((i j : ℕ) → y i j ≡ y j i) → pairs O r (λ i j. x (cell i j) ⊗ y i j)
      ≡ sum O r (λ i. dot O i (λ j. x (triangular i + j)) (y i) ⊕ dot O i (λ j. x (triangular i + j)) (y i) ⊕ x (triangular i + i) ⊗ y i i)
  unfolding dot
  triangle-by-rows r x y mirrored =
      pairs_mirrored r (λ i j. x (cell i j) ⊗ y i j) (λ i j. ap₂ ◌⊗◌ (ap x (cell_mirrored i j)) (mirrored i j))
      ∙ sum_ext O r (λ i. sum O i (λ j. x (cell i j) ⊗ y i j) ⊕ sum O i (λ j. x (cell i j) ⊗ y i j) ⊕ x (cell i i) ⊗ y i i)
      (λ i. sum O i (λ j. x (triangular i + j) ⊗ y i j) ⊕ sum O i (λ j. x (triangular i + j) ⊗ y i j) ⊕ x (triangular i + i) ⊗ y i i)
      (λ i l. ap₂ (λ s d. s ⊕ s ⊕ d)
      (sum_ext O i (λ j. x (cell i j) ⊗ y i j) (λ j. x (triangular i + j) ⊗ y i j) (λ j m. ap (λ k. x k ⊗ y i j) (cell_lower i j (omega arith))))
      (ap (λ k. x k ⊗ y i i) (cell_lower i i (le_refl i))))

  -- Σ x_ij·y_ij of two triangles
  pub products-by-rows : (r : ℕ) (x y : ℕ → Carrier) → pairs O r (λ i j. x (cell i j) ⊗ y (cell i j))
      ≡ sum O r (λ i. dot O i (λ j. x (triangular i + j)) (λ j. y (triangular i + j)) ⊕ dot O i (λ j. x (triangular i + j)) (λ j. y (triangular i + j)) ⊕ x (triangular i + i) ⊗ y (triangular i + i))
  products-by-rows r x y =
      triangle-by-rows r x (λ i j. y (cell i j)) (λ i j. ap y (cell_mirrored i j))
      ∙ sum_ext O r (λ i. row i (λ j. y (cell i j)) ⊕ x (triangular i + i) ⊗ y (cell i i)) (λ i. row i (λ j. y (triangular i + j)) ⊕ x (triangular i + i) ⊗ y (triangular i + i))
      (λ i l. ap₂ ◌⊕◌
      (ap (λ s. s ⊕ s) (dot_ext O i (λ j. x (triangular i + j)) (λ j. x (triangular i + j)) (λ j. y (cell i j)) (λ j. y (triangular i + j)) (λ j m. refl) (λ j m. ap y (cell_lower i j (omega arith)))))
      (ap (λ k. x (triangular i + i) ⊗ y k) (cell_lower i i (le_refl i))))
    where
      row : ℕ → (ℕ → Carrier) → Carrier
      row i f = dot O i (λ j. x (triangular i + j)) f ⊕ dot O i (λ j. x (triangular i + j)) f

  -- Σ x_ij·c_i·c_j of a triangle and factors
  pub weighted_by_rows : (r : ℕ) (x c : ℕ → Carrier) → pairs O r (λ i j. x (cell i j) ⊗ c i ⊗ c j)
      ≡ sum O r (λ i. (dot O i (λ j. x (triangular i + j)) c ⊕ dot O i (λ j. x (triangular i + j)) c ⊕ x (triangular i + i) ⊗ c i) ⊗ c i)
  unfolding dot
  weighted_by_rows r x c =
      pairs_mirrored r term (λ i j. ap (λ k. x k ⊗ c i ⊗ c j) (cell_mirrored i j) ∙ exchange (x (cell j i)) (c i) (c j))
      ∙ sum_ext O r (λ i. sum O i (term i) ⊕ sum O i (term i) ⊕ term i i) (λ i. (left i ⊕ left i ⊕ x (triangular i + i) ⊗ c i) ⊗ c i)
      (λ i l. ap₂ (λ s d. s ⊕ s ⊕ d) (row i) (ap (λ k. x k ⊗ c i ⊗ c i) (cell_lower i i (le_refl i))) ∙ collect (left i) (x (triangular i + i) ⊗ c i) (c i))
    where
      term : ℕ → ℕ → Carrier
      term i j = x (cell i j) ⊗ c i ⊗ c j

      left : ℕ → Carrier
      left i = sum O i (λ j. x (triangular i + j) ⊗ c j)

      exchange : (a b d : Carrier) → a ⊗ b ⊗ d ≡ a ⊗ d ⊗ b
      exchange a b d = simp (ring, R)

      collect : (a b d : Carrier) → a ⊗ d ⊕ a ⊗ d ⊕ b ⊗ d ≡ (a ⊕ a ⊕ b) ⊗ d
      collect a b d = simp (ring, R)

      row : (i : ℕ) → sum O i (term i) ≡ left i ⊗ c i
      row i =
          sum_ext O i (term i) (λ j. x (triangular i + j) ⊗ c j ⊗ c i)
          (λ j m. ap (λ k. x k ⊗ c i ⊗ c j) (cell_lower i j (omega arith)) ∙ exchange (x (triangular i + j)) (c i) (c j))
          ∙ sum-mul_right O R i (c i) (λ j. x (triangular i + j) ⊗ c j)

  -- Σ x_ii of a triangle
  pub diagonal_by_rows : (r : ℕ) (x : ℕ → Carrier) → sum O r (λ i. x (cell i i)) ≡ sum O r (λ i. x (triangular i + i))
  diagonal_by_rows r x = sum_ext O r (λ i. x (cell i i)) (λ i. x (triangular i + i)) (λ i l. ap x (cell_lower i i (le_refl i)))
