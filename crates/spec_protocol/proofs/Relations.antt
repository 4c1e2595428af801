-- Checks 24 to 27 of a message that agrees with the formulas: 24, 25 and 26 are fine, and 27 is fine just where Σ alpha_k·error_k is zero.
use mathlib.Core.Path.{◌≡◌, refl, sym, ap, ap₂, ◌∙◌}
use mathlib.Core.Logic.{◌↔◌}
use Prim.Native.Nat.{ℕ, ◌<◌}
use Rattle.math.specs.algebra.Ops as Ops
use Rattle.math.proofs.algebra.Ring.{add_cancel_right, eq_of_sub_nil}
use Rattle.math.proofs.algebra.Sum.{sum_ext}
use Rattle.math.proofs.algebra.Dot.{dot_ext, dot-comb_right}
use Rattle.math.proofs.algebra.Form.{pairs_ext, square_of-comb, twice_line_of-comb, twice-form}
use Rattle.spec_leaves.specs.Answer.{fine}
use Rattle.spec_leaves.specs.Rq.{Element, rzero}
use Rattle.spec_leaves.specs.Ring.{RqOps, words}
use Rattle.spec_leaves.proofs.RqRing.{rq_ring, words_path}
use Rattle.spec_leaves.proofs.Bridge.{words-nil}
use Rattle.spec_leaves.proofs.Scalar.{rq_double_cancel}
use Rattle.spec_protocol.specs.Views.{Public, Message}
use Rattle.spec_protocol.specs.Formulas as F
use Rattle.spec_protocol.specs.Formulas.{◌⊕◌, ◌⊗◌, sum, dot, pairs, left, a_sum, φ_sum, b_sum}
use Rattle.spec_protocol.specs.Conditions.{alpha_error}
use Rattle.spec_protocol.specs.Verifier.{twice, same, check_24, check_25, check_26}
use Rattle.spec_protocol.proofs.Agrees.{Agrees}
use Rattle.spec_protocol.proofs.Fine.{require-holds}
use Rattle.spec_protocol.proofs.Checks.{first_fine}
use Rattle.spec_protocol.proofs.Constraints.{left_of-sums, alpha_error_is}

-- z is the linear combination of the witness vectors by the challenges
pub z_is : (X : Public) (s : ℕ → ℕ → Element) (m : ℕ) → F.z X s m ≡ Ops.comb RqOps X.P.r X.c s m
unfolding F.z Ops.comb
z_is X s m = sum_ext RqOps X.P.r (λ i. s i m ⊗ X.c i) (λ i. X.c i ⊗ s i m) (λ i h. rq_ring.mul_comm (s i m) (X.c i))

module _ (X : Public) (s : ℕ → ℕ → Element) (M : Message) (agrees : Agrees X s M) where
  open X use {P, A, a, φ, b, alpha, beta, c}
  open P use {n, r, κ, K, L}

  -- the z that is sent, as a linear combination
  z-sent : (m : ℕ) → m < n → M.z m ≡ Ops.comb RqOps r c s m
  z-sent m h = agrees.z m h ∙ z_is X s m

  -- A·z = Σ t_i·c_i
  pub t-relation : (k : ℕ) → k < κ → dot n (A k) M.z ≡ sum r (λ i. M.t i k ⊗ c i)
  unfolding F.t
  t-relation k h =
      dot_ext RqOps n (A k) (A k) M.z (Ops.comb RqOps r c s) (λ m l. refl) z-sent
      ∙ dot-comb_right RqOps rq_ring n r c (A k) s
      ∙ sum_ext RqOps r (λ i. c i ⊗ dot n (A k) (s i)) (λ i. M.t i k ⊗ c i) (λ i l. rq_ring.mul_comm (c i) (dot n (A k) (s i)) ∙ ap (λ x. x ⊗ c i) (sym (agrees.t i k l h)))

  -- ⟨z,z⟩ = Σ g_ij·c_i·c_j
  pub g-relation : dot n M.z M.z ≡ pairs r (λ i j. M.g i j ⊗ c i ⊗ c j)
  unfolding F.g
  g-relation =
      dot_ext RqOps n M.z (Ops.comb RqOps r c s) M.z (Ops.comb RqOps r c s) z-sent z-sent
      ∙ square_of-comb RqOps rq_ring r n c s
      ∙ pairs_ext RqOps r (λ i j. dot n (s i) (s j) ⊗ c i ⊗ c j) (λ i j. M.g i j ⊗ c i ⊗ c j) (λ i j h l. ap (λ x. x ⊗ c i ⊗ c j) (sym (agrees.g i j h l)))

  -- twice Σ⟨φ_i,z⟩·c_i = Σ h_ij·c_i·c_j
  pub h-relation : twice (sum r (λ i. dot n (φ_sum X i) M.z ⊗ c i)) ≡ pairs r (λ i j. M.h i j ⊗ c i ⊗ c j)
  unfolding F.h
  h-relation =
      ap twice (sum_ext RqOps r (λ i. dot n (φ_sum X i) M.z ⊗ c i) (λ i. dot n (φ_sum X i) (Ops.comb RqOps r c s) ⊗ c i)
      (λ i h. ap (λ x. x ⊗ c i) (dot_ext RqOps n (φ_sum X i) (φ_sum X i) M.z (Ops.comb RqOps r c s) (λ m l. refl) z-sent)))
      ∙ twice_line_of-comb RqOps rq_ring r n c (φ_sum X) s
      ∙ pairs_ext RqOps r (λ i j. (dot n (φ_sum X i) (s j) ⊕ dot n (φ_sum X j) (s i)) ⊗ c i ⊗ c j) (λ i j. M.h i j ⊗ c i ⊗ c j) (λ i j h l. ap (λ x. x ⊗ c i ⊗ c j) (sym (agrees.h i j h l)))

  -- 24 is fine
  pub check_24-fine : check_24 X M ≡ fine
  unfolding check_24
  check_24-fine = first_fine κ _ (λ k h. require-holds (same (dot n (A k) M.z) (sum r (λ i. M.t i k ⊗ c i))) _ (ap words (t-relation k h)))

  -- 25 is fine
  pub check_25-fine : check_25 X M ≡ fine
  unfolding check_25
  check_25-fine = require-holds (same (dot n M.z M.z) (pairs r (λ i j. M.g i j ⊗ c i ⊗ c j))) _ (ap words g-relation)

  -- 26 is fine
  pub check_26-fine : check_26 X M ≡ fine
  unfolding check_26
  check_26-fine = require-holds (same (twice (sum r (λ i. dot n (φ_sum X i) M.z ⊗ c i))) (pairs r (λ i j. M.h i j ⊗ c i ⊗ c j))) _ (ap words h-relation)

  -- twice Σ a_ij·g_ij plus Σ h_ii is twice the left side of the aggregated constraint
  pub aggregated-left : twice (pairs r (λ i j. a_sum X i j ⊗ M.g i j)) ⊕ sum r (λ i. M.h i i) ≡ twice (left P (a_sum X) (φ_sum X) s)
  unfolding F.g F.h
  aggregated-left =
      ap₂ (λ x y. twice x ⊕ y)
      (pairs_ext RqOps r (λ i j. a_sum X i j ⊗ M.g i j) (λ i j. a_sum X i j ⊗ dot n (s i) (s j)) (λ i j h l. ap (◌⊗◌ (a_sum X i j)) (agrees.g i j h l)))
      (sum_ext RqOps r (λ i. M.h i i) (λ i. dot n (φ_sum X i) (s i) ⊕ dot n (φ_sum X i) (s i)) (λ i h. agrees.h i i h h))
      ∙ twice-form RqOps rq_ring r n (a_sum X) (φ_sum X) s

  -- the aggregated b of the b'' that is sent
  pub aggregated_right : b_sum X M.b'' ≡ sum K (λ k. alpha k ⊗ b k) ⊕ sum L (λ k. beta k ⊗ F.b'' X s k)
  unfolding b_sum
  aggregated_right =
      ap (◌⊕◌ (sum K (λ k. alpha k ⊗ b k))) (sum_ext RqOps L (λ k. beta k ⊗ M.b'' k) (λ k. beta k ⊗ F.b'' X s k) (λ k h. ap (◌⊗◌ (beta k)) (agrees.b'' k h)))

  -- check 27's two sides are the same just where Σ alpha_k·error_k is zero
  pub aggregated-relation : (words (twice (pairs r (λ i j. a_sum X i j ⊗ M.g i j)) ⊕ sum r (λ i. M.h i i)) ≡ words (twice (b_sum X M.b''))) ↔ (words (alpha_error X s) ≡ rzero)
  aggregated-relation = (
    λ same. ap words (alpha_error_is X s ∙ ap (λ x. x ⊕ RqOps.neg rights) (met same) ∙ rq_ring.add-neg rights) ∙ words-nil,
    λ zero. ap words (aggregated-left ∙ ap twice (left_of-sums X s ∙ ap (λ x. x ⊕ betas) (none zero) ∙ sym (aggregated_right))),
  )
    where
      lefts : Element
      lefts = sum K (λ k. alpha k ⊗ left P (a k) (φ k) s)

      rights : Element
      rights = sum K (λ k. alpha k ⊗ b k)

      betas : Element
      betas = sum L (λ k. beta k ⊗ F.b'' X s k)

      met : words (twice (pairs r (λ i j. a_sum X i j ⊗ M.g i j)) ⊕ sum r (λ i. M.h i i)) ≡ words (twice (b_sum X M.b'')) → lefts ≡ rights
      met same = add_cancel_right RqOps rq_ring betas lefts rights
          (sym (left_of-sums X s)
          ∙ rq_double_cancel (left P (a_sum X) (φ_sum X) s) (b_sum X M.b'') (sym aggregated-left ∙ words_path _ _ same)
          ∙ aggregated_right)

      none : words (alpha_error X s) ≡ rzero → lefts ≡ rights
      none zero = eq_of_sub_nil RqOps rq_ring lefts rights (sym (alpha_error_is X s) ∙ words_path (alpha_error X s) RqOps.nil (zero ∙ sym words-nil))
