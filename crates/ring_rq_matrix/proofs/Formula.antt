-- The sums of the contracts are those of the verifier's checks, where the scratch S holds the challenges, φ and a.
use mathlib.Core.Path.{◌≡◌, refl, ap, ap₂, ◌∙◌}
use mathlib.Core.List.{List}
use Prim.Native.Nat.{ℕ}
use Rattle.math.proofs.algebra.Sum.{sum_ext}
use Rattle.math.proofs.algebra.Dot.{dot_ext}
use Rattle.math.proofs.algebra.Form.{pairs_ext}
use Rattle.spec_leaves.specs.Rq.{Element}
use Rattle.spec_leaves.specs.Ring.{RqOps}
use Rattle.ring_inner_product.specs.Run.{run}
use Rattle.spec_protocol.specs.Layout.{start, transcript_sections}
use Rattle.spec_protocol.specs.Views.{public, message}
use Rattle.spec_protocol.specs.Formulas as F
use Rattle.spec_protocol.specs.Formulas.{◌⊗◌, sum, dot, pairs}
use Rattle.spec_protocol.proofs.Region.{Elements, Triangle, Vectors}
use Rattle.ring_rq_matrix.specs.Region.{vector, triangle_at}

-- Σ x_i·c_i of factors that a slice holds
sum_read : (S : List ℕ) (at r : ℕ) (c x : ℕ → Element) → Elements S at r c → sum r (λ i. x i ⊗ run S at 64 i) ≡ sum r (λ i. x i ⊗ c i)
sum_read S at r c x holds = sum_ext RqOps r (λ i. x i ⊗ run S at 64 i) (λ i. x i ⊗ c i) (λ i l. ap (λ e. x i ⊗ e) (holds i l))

-- Σ x_ij·c_i·c_j of factors that a slice holds
pairs_read : (S : List ℕ) (at r : ℕ) (c : ℕ → Element) (x : ℕ → ℕ → Element) → Elements S at r c → pairs r (λ i j. x i j ⊗ run S at 64 i ⊗ run S at 64 j) ≡ pairs r (λ i j. x i j ⊗ c i ⊗ c j)
pairs_read S at r c x holds =
    pairs_ext RqOps r (λ i j. x i j ⊗ run S at 64 i ⊗ run S at 64 j) (λ i j. x i j ⊗ c i ⊗ c j)
    (λ i j l m. ap₂ (λ a b. x i j ⊗ a ⊗ b) (holds i l) (holds j m))

module _ (J R X : List ℕ) where
  open public J R use {P, A, c}
  open P use {n, r, κ}
  open message P X use {z, t, g, h}

  module _ (S : List ℕ) (c-at : ℕ) (holds : Elements S c-at r c) where
    -- check 24, right: Σ t_ik·c_i
    pub sum-of_t : (k : ℕ) → sum r (λ i. vector X (start (transcript_sections P) 5) κ i k ⊗ run S c-at 64 i) ≡ sum r (λ i. t i k ⊗ c i)
    sum-of_t k = sum_read S c-at r c (λ i. t i k) holds

    -- check 25, right: Σ g_ij·c_i·c_j
    pub sum-of_g : pairs r (λ i j. triangle_at X (start (transcript_sections P) 6) i j ⊗ run S c-at 64 i ⊗ run S c-at 64 j) ≡ pairs r (λ i j. g i j ⊗ c i ⊗ c j)
    sum-of_g = pairs_read S c-at r c g holds

    -- check 26, right: Σ h_ij·c_i·c_j
    pub sum-of_h : pairs r (λ i j. triangle_at X (start (transcript_sections P) 7) i j ⊗ run S c-at 64 i ⊗ run S c-at 64 j) ≡ pairs r (λ i j. h i j ⊗ c i ⊗ c j)
    sum-of_h = pairs_read S c-at r c h holds

    -- check 26, left: Σ ⟨φ_i, z⟩·c_i
    pub sum_of-φ : (φ-at : ℕ) → Vectors S φ-at r n (F.φ_sum (public J R))
        → sum r (λ i. dot n (vector S φ-at n i) (run X (start (transcript_sections P) 4) 64) ⊗ run S c-at 64 i) ≡ sum r (λ i. dot n (F.φ_sum (public J R) i) z ⊗ c i)
    sum_of-φ φ-at φ-holds =
        sum_read S c-at r c (λ i. dot n (vector S φ-at n i) z) holds
        ∙ sum_ext RqOps r (λ i. dot n (vector S φ-at n i) z ⊗ c i) (λ i. dot n (F.φ_sum (public J R) i) z ⊗ c i)
        (λ i l. ap (λ e. e ⊗ c i) (dot_ext RqOps n (vector S φ-at n i) (F.φ_sum (public J R) i) z z (λ m k. φ-holds i m l k) (λ m k. refl)))

  -- check 27: Σ a_ij·g_ij
  pub sum_of-a : (S : List ℕ) (a_at : ℕ) → Triangle S a_at r (F.a_sum (public J R))
      → pairs r (λ i j. triangle_at S a_at i j ⊗ triangle_at X (start (transcript_sections P) 6) i j) ≡ pairs r (λ i j. F.a_sum (public J R) i j ⊗ g i j)
  sum_of-a S a_at holds =
      pairs_ext RqOps r (λ i j. triangle_at S a_at i j ⊗ g i j) (λ i j. F.a_sum (public J R) i j ⊗ g i j)
      (λ i j l m. ap (λ e. e ⊗ g i j) (holds i j l m))
