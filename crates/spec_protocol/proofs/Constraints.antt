-- Weighted sums of constraints: their left side is the weighted sum of the left sides.
use mathlib.Core.Path.{◌≡◌, refl, ap, ap₂, ◌∙◌}
use Prim.Native.Nat.{ℕ}
use Rattle.math.specs.algebra.Ops as Ops
use Rattle.math.proofs.algebra.Sum.{sum_ext}
use Rattle.math.proofs.algebra.Dot.{dot-sub_right}
use Rattle.math.proofs.algebra.Form.{form_ext, form-comb, form-add, form-add_line, line_comb}
use Rattle.spec_leaves.specs.Rq.{Element}
use Rattle.spec_leaves.specs.Ring.{RqOps, words, scalar, scale, conj}
use Rattle.spec_leaves.proofs.RqRing.{rq_ring}
use Rattle.spec_leaves.proofs.Scalar.{scale-scalar}
use Rattle.spec_leaves.proofs.Bridge.{element-words, element-rsub}
use Rattle.spec_protocol.specs.Views.{Public}
use Rattle.spec_protocol.specs.Formulas.{◌⊕◌, ◌⊗◌, sum, dot, left, Π_row, a'', φ'', a_sum, φ_sum, b''}
use Rattle.spec_protocol.specs.Conditions.{ring_error, alpha_error}

-- a sum of multiples is a sum of products with the numbers as elements
pub scaled-sum : (n : ℕ) (f : ℕ → Element) (w : ℕ → ℕ) → sum n (λ x. scale (f x) (w x)) ≡ sum n (λ x. scalar (w x) ⊗ f x)
scaled-sum n f w = sum_ext RqOps n (λ x. scale (f x) (w x)) (λ x. scalar (w x) ⊗ f x) (λ x h. scale-scalar (f x) (w x) ∙ rq_ring.mul_comm (f x) (scalar (w x)))

module _ (X : Public) (s : ℕ → ℕ → Element) where
  open X use {P, a', φ', b₀, a, φ, b, psi, omega, alpha, beta}
  open P use {n, r, K, l, L}

  -- Σ_i ⟨conj(row j of Π_i), s_i⟩
  unfoldable pub projected : ℕ → Element
  projected j = sum r (λ i. dot n (λ m. conj (Π_row X i j m)) (s i))

  -- b''_k = Σ psi[k][l]·(left side l) + Σ omega[k][j]·Σ_i ⟨conj(row j of Π_i), s_i⟩
  pub b''_is : (k : ℕ) → b'' X s k ≡ sum l (λ x. scalar (psi k x) ⊗ left P (a' x) (φ' x) s) ⊕ sum 256 (λ j. scalar (omega k j) ⊗ projected j)
  unfolding b'' a'' φ'' projected Ops.comb
  b''_is k =
      form_ext RqOps r n (a'' X k) (λ i j. sum l (λ x. scalar (psi k x) ⊗ a' x i j)) (φ'' X k) (λ i m. lines i m ⊕ rows i m) s s
      (λ i j h m. scaled-sum l (λ x. a' x i j) (psi k))
      (λ i m h e. ap₂ ◌⊕◌ (scaled-sum l (λ x. φ' x i m) (psi k)) (scaled-sum 256 (λ j. conj (Π_row X i j m)) (omega k)))
      (λ i m h e. refl)
      ∙ form-add_line RqOps rq_ring r n (λ i j. sum l (λ x. scalar (psi k x) ⊗ a' x i j)) lines rows s
      ∙ ap₂ ◌⊕◌
      (form-comb RqOps rq_ring r n l (λ x. scalar (psi k x)) a' φ' s)
      (line_comb RqOps rq_ring r n 256 (λ j. scalar (omega k j)) (λ j i m. conj (Π_row X i j m)) s)
    where
      lines : ℕ → ℕ → Element
      lines i = Ops.comb RqOps l (λ x. scalar (psi k x)) (λ x. φ' x i)

      rows : ℕ → ℕ → Element
      rows i = Ops.comb RqOps 256 (λ j. scalar (omega k j)) (λ j m. conj (Π_row X i j m))

  -- the left side of the aggregated constraint: Σ alpha_k·(left side k) + Σ beta_k·b''_k
  pub left_of-sums : left P (a_sum X) (φ_sum X) s ≡ sum K (λ k. alpha k ⊗ left P (a k) (φ k) s) ⊕ sum L (λ k. beta k ⊗ b'' X s k)
  unfolding a_sum φ_sum b'' Ops.comb
  left_of-sums =
      form-add RqOps rq_ring r n (λ i j. sum K (λ k. alpha k ⊗ a k i j)) (λ i j. sum L (λ k. beta k ⊗ a'' X k i j)) (λ i m. sum K (λ k. alpha k ⊗ φ k i m)) (λ i m. sum L (λ k. beta k ⊗ φ'' X k i m)) s
      ∙ ap₂ ◌⊕◌ (form-comb RqOps rq_ring r n K alpha a φ s) (form-comb RqOps rq_ring r n L beta (a'' X) (φ'' X) s)

  -- a ring constraint's error is its left side less its right side
  pub ring_error_is : (k : ℕ) → ring_error X s k ≡ left P (a k) (φ k) s ⊕ RqOps.neg (b k)
  unfolding ring_error
  ring_error_is k =
      element-rsub (words (left P (a k) (φ k) s)) (words (b k))
      ∙ ap₂ (λ x y. x ⊕ RqOps.neg y) (element-words (left P (a k) (φ k) s)) (element-words (b k))

  -- Σ alpha_k·error_k = Σ alpha_k·(left side k) − Σ alpha_k·b_k
  pub alpha_error_is : alpha_error X s ≡ sum K (λ k. alpha k ⊗ left P (a k) (φ k) s) ⊕ RqOps.neg (sum K (λ k. alpha k ⊗ b k))
  unfolding alpha_error Ops.dot
  alpha_error_is =
      sum_ext RqOps K (λ k. alpha k ⊗ ring_error X s k) (λ k. alpha k ⊗ (left P (a k) (φ k) s ⊕ RqOps.neg (b k))) (λ k h. ap (◌⊗◌ (alpha k)) (ring_error_is k))
      ∙ dot-sub_right RqOps rq_ring K alpha (λ k. left P (a k) (φ k) s) b
