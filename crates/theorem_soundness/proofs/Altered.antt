-- What check 22 does not force: the verdict on a message with altered b'' is one equation.
use mathlib.Core.Path.{◌≡◌, refl, sym, ap, ◌∙◌}
use mathlib.Core.List.{[]}
use mathlib.Core.Logic.{◌↔◌}
use Prim.Native.Nat.{ℕ, ◌+◌, ◌*◌, ◌<◌}
use native.Mathlib.Nat.{mod-eq_of_lt}
use native.Mathlib.Decide.{ℕ_discrete}
use Rattle.math.specs.lists.Sum.{Σ}
use Rattle.math.specs.algebra.Ops as Ops
use Rattle.math.specs.algebra.Ops.{Ops}
use Rattle.math.proofs.algebra.Ring.{CRing, ring, add-nil, add-neg, add_neg_cancel, add_cancel-left, neg_dist, neg-neg}
use Rattle.math.proofs.algebra.Sum.{sum_ext}
use Rattle.math.proofs.algebra.Dot.{dot-add_right}
use Rattle.spec_leaves.specs.Zq.{zneg, zsub}
use Rattle.spec_leaves.specs.Answer.{fine, accepted, failed, ◌then◌}
use Rattle.spec_leaves.specs.Rq.{Element, coeff}
use Rattle.spec_leaves.specs.Ring.{Residue, residue, canonical_mod, ZqOps, RqOps, words, constant}
use Rattle.spec_leaves.proofs.ZqRing.{zq_ring, residue-zneg, residue-zsub}
use Rattle.spec_leaves.proofs.RqRing.{rq_ring, words_path}
use Rattle.spec_leaves.proofs.Bridge.{words-nil}
use Rattle.spec_leaves.proofs.Scalar.{rq_double_cancel}
use Rattle.spec_leaves.proofs.Conjugate.{constant-add, constant-word}
use Rattle.spec_protocol.specs.Checks.{require}
use Rattle.spec_protocol.specs.Views.{Public, Message}
use Rattle.spec_protocol.specs.Formulas as F
use Rattle.spec_protocol.specs.Formulas.{◌⊕◌, ◌⊗◌, sum, pairs, left, a_sum, φ_sum, b_sum}
use Rattle.spec_protocol.specs.Prover.{t_norm, g_norm, h_norm}
use Rattle.spec_protocol.specs.Conditions.{psi_error, sent, computed, cells_left, alpha_error}
use Rattle.spec_protocol.specs.Verifier.{twice, same, check_21, check_22, check_23, check_24, check_25, check_26, check_27, check_28, check_29, checks}
use Rattle.spec_protocol.proofs.Agrees.{Agrees}
use Rattle.spec_protocol.proofs.Fine.{require-holds, then_fine_left, then_fine_right}
use Rattle.spec_protocol.proofs.Checks.{then_fine, require_iff, first_fine}
use Rattle.spec_protocol.proofs.Constraints.{left_of-sums, alpha_error_is}
use Rattle.spec_protocol.proofs.Corollary.{alpha_error_zero}
use Rattle.spec_protocol.proofs.PsiRows.{psi_error_is}
use Rattle.spec_protocol.proofs.Relations.{check_24-fine, check_25-fine, check_26-fine, aggregated-left}
use Rattle.spec_protocol.proofs.ChecksAreConditions.{cells_left_is, check_21_is, same-computed, check_23_is, t_norm_is, g_norm_is, h_norm_is, check_28-fine, check_29-fine}
use Rattle.theorem_soundness.specs.Altered.{with_b'', altered, honest, beta_sum, Within, RingsMet, Corrects, norms}

module _ (O : Ops) (R : CRing O) where
  open O use {Carrier, add as ◌+O◌, neg}

  infixl 60 ◌+O◌
  -- a − (a − c) = c
  less_difference : (a c : Carrier) → a +O neg (a +O neg c) ≡ c
  less_difference a c = ap (◌+O◌ a) (neg_dist O R a (neg c) ∙ ap (◌+O◌ (neg a)) (neg-neg O R c)) ∙ add_neg_cancel O R a c

  -- x + z = y + (z + (x − y))
  plus-difference : (x y z : Carrier) → x +O z ≡ y +O (z +O (x +O neg y))
  plus-difference x y z = sym (order y z x (neg y) ∙ ap (λ w. x +O w +O z) (add-neg O R y) ∙ ap (λ w. w +O z) (add-nil O R x))
    where
      order : (y z x w : Carrier) → y +O (z +O (x +O w)) ≡ x +O (y +O w) +O z
      order y z x w = simp (ring, R)

-- a message that agrees with the formulas but for b'', to which ε is added
module _ (X : Public) (s : ℕ → ℕ → Element) (ε : ℕ → Element) (M : Message) (agrees : Agrees X s (with_b'' (F.b'' X s) M)) (added : (k : ℕ) → k < X.P.L → M.b'' k ≡ F.b'' X s k ⊕ ε k) where
  open X use {P, b₀, psi, omega, a, φ, b, alpha, beta}
  open P use {r, K, L, l}

  -- the message with b'' by the formulas
  abbrev formal : Message
  formal = with_b'' (F.b'' X s) M

  -- the constant coefficient that is sent is the one that 22 computes
  row_met : (k : ℕ) → k < L → coeff (words (ε k)) 0 ≡ zneg (psi_error X s k) → coeff (words (M.b'' k)) 0 ≡ computed X s k
  unfolding sent computed constant
  row_met k h corrected =
      ap (λ e. coeff (words e) 0) (added k h)
      ∙ sym (constant-word (F.b'' X s k ⊕ ε k))
      ∙ ap (λ (x : Residue). x.0)
      (constant-add (F.b'' X s k) (ε k)
      ∙ ap (ZqOps.add (constant (F.b'' X s k)))
      (ap residue (corrected ∙ ap zneg (psi_error_is X s k)) ∙ residue-zneg (zsub (sent X s k) (computed X s k)) ∙ ap ZqOps.neg (residue-zsub (sent X s k) (computed X s k)))
      ∙ less_difference ZqOps zq_ring (constant (F.b'' X s k)) (residue (computed X s k)))
      ∙ mod-eq_of_lt (canonical_mod (Σ l (λ x. psi k x * b₀ x) + Σ 256 (λ j. omega k j * F.p X s j)))

  -- 22 is fine
  check_22-fine : Corrects X s ε → check_22 X M ≡ fine
  unfolding check_22
  check_22-fine corrects = first_fine L _ (λ k h. require-holds (ℕ_discrete _ _) _ (row_met k h (corrects k h) ∙ sym (same-computed X s formal agrees k)))

  -- the aggregated b
  b_sum_is : b_sum X M.b'' ≡ sum K (λ k. alpha k ⊗ b k) ⊕ (sum L (λ k. beta k ⊗ F.b'' X s k) ⊕ beta_sum X ε)
  unfolding b_sum beta_sum Ops.dot
  b_sum_is = ap (◌⊕◌ (sum K (λ k. alpha k ⊗ b k)))
      (sum_ext RqOps L (λ k. beta k ⊗ M.b'' k) (λ k. beta k ⊗ (F.b'' X s k ⊕ ε k)) (λ k h. ap (◌⊗◌ (beta k)) (added k h))
      ∙ dot-add_right RqOps rq_ring L beta (F.b'' X s) ε)

  -- the left side of the aggregated constraint: Σ alpha_k·b_k, Σ alpha_k·error_k and Σ beta_k·b''_k
  left_is : left P (a_sum X) (φ_sum X) s ≡ sum K (λ k. alpha k ⊗ b k) ⊕ (sum L (λ k. beta k ⊗ F.b'' X s k) ⊕ alpha_error X s)
  left_is =
      left_of-sums X s
      ∙ plus-difference RqOps rq_ring (sum K (λ k. alpha k ⊗ left P (a k) (φ k) s)) (sum K (λ k. alpha k ⊗ b k)) (sum L (λ k. beta k ⊗ F.b'' X s k))
      ∙ ap (λ x. sum K (λ k. alpha k ⊗ b k) ⊕ (sum L (λ k. beta k ⊗ F.b'' X s k) ⊕ x)) (sym (alpha_error_is X s))

  -- 27's two sides are the same just where Σ alpha_k·error_k = Σ β_k⊗ε_k
  relation : (words (twice (pairs r (λ i j. a_sum X i j ⊗ M.g i j)) ⊕ sum r (λ i. M.h i i)) ≡ words (twice (b_sum X M.b''))) ↔ (words (alpha_error X s) ≡ words (beta_sum X ε))
  relation = (
    λ met. ap words (add_cancel-left RqOps rq_ring betas (alpha_error X s) (beta_sum X ε)
        (add_cancel-left RqOps rq_ring rights (betas ⊕ alpha_error X s) (betas ⊕ beta_sum X ε)
        (sym left_is ∙ rq_double_cancel (left P (a_sum X) (φ_sum X) s) (b_sum X M.b'') (sym (aggregated-left X s formal agrees) ∙ words_path _ _ met) ∙ b_sum_is))),
    λ met. ap words (aggregated-left X s formal agrees ∙ ap twice (left_is ∙ ap (λ x. rights ⊕ (betas ⊕ x)) (words_path (alpha_error X s) (beta_sum X ε) met) ∙ sym b_sum_is)),
  )
    where
      rights : Element
      rights = sum K (λ k. alpha k ⊗ b k)

      betas : Element
      betas = sum L (λ k. beta k ⊗ F.b'' X s k)

  -- 27 is that equation
  check_27_is : check_27 X M ≡ require (same (alpha_error X s) (beta_sum X ε)) (failed 27 [])
  unfolding check_27
  check_27_is = require_iff (same (twice (pairs r (λ i j. a_sum X i j ⊗ M.g i j)) ⊕ sum r (λ i. M.h i i)) (twice (b_sum X M.b''))) (same (alpha_error X s) (beta_sum X ε))
      (failed 27 []) (failed 27 []) relation.0 relation.1 refl

  -- the verdict is that equation, after the two norms
  pub verdict : Within X s → Corrects X s ε → checks X M ≡ norms X s then require (same (alpha_error X s) (beta_sum X ε)) (failed 27 []) then accepted (cells_left X s)
  unfolding checks norms check_21 check_23 check_24 check_25 check_26 check_28 check_29
  verdict within corrects =
      let both = then_fine_left (t_norm X (F.t X s) then g_norm X (F.g X s)) (h_norm X (F.h X s)) within in
      (λ i.
      check_21_is X s formal agrees i
      then check_22-fine corrects i
      then check_23_is X s formal agrees i
      then check_24-fine X s formal agrees i
      then check_25-fine X s formal agrees i
      then check_26-fine X s formal agrees i
      then check_27_is i
      then (t_norm_is X s formal agrees ∙ then_fine_left (t_norm X (F.t X s)) (g_norm X (F.g X s)) both) i
      then (g_norm_is X s formal agrees ∙ then_fine_right (t_norm X (F.t X s)) (g_norm X (F.g X s)) both) i
      then check_28-fine X s formal agrees i
      then (h_norm_is X s formal agrees ∙ then_fine_right (t_norm X (F.t X s) then g_norm X (F.g X s)) (h_norm X (F.h X s)) within) i
      then check_29-fine X s formal agrees i
      then accepted (cells_left_is X s formal agrees i))
      ∙ simp then_fine

-- where the ring constraints are met and Σ β_k⊗ε_k = 0, the equation holds
pub equation_holds : (X : Public) (s : ℕ → ℕ → Element) (ε : ℕ → Element) → RingsMet X s → beta_sum X ε ≡ RqOps.nil
    → norms X s then require (same (alpha_error X s) (beta_sum X ε)) (failed 27 []) then accepted (cells_left X s) ≡ norms X s then accepted (cells_left X s)
equation_holds X s ε met zero =
    ap (λ x. norms X s then x then accepted (cells_left X s))
    (require-holds (same (alpha_error X s) (beta_sum X ε)) (failed 27 []) (alpha_error_zero X s met ∙ sym words-nil ∙ ap words (sym zero)))
    ∙ simp then_fine

module _ (X : Public) (s : ℕ → ℕ → Element) (ε : ℕ → Element) (within : Within X s) (corrects : Corrects X s ε) where
  -- the verdict on the honest message with altered b'': 21, 23, and one equation, Σ alpha_k⊗error_k = Σ β_k⊗ε_k
  pub one_equation : checks X (altered ε (honest X s)) ≡ norms X s then require (same (alpha_error X s) (beta_sum X ε)) (failed 27 []) then accepted (cells_left X s)
  one_equation = verdict X s ε (altered ε (honest X s)) agrees (λ k h. refl) within corrects
    where
      agrees : Agrees X s (honest X s)
      agrees = record {
        u₁ = λ k h. refl;
        p = λ j h. refl;
        b'' = λ k h. refl;
        u₂ = λ k h. refl;
        z = λ m h. refl;
        t = λ i k h l. refl;
        g = λ i j h l. refl;
        h = λ i j h l. refl;
      }

  -- what 22 does not force: the ring constraints met and Σ β_k⊗ε_k = 0, the verdict is that of the norms, as if the psi condition were not there
  pub as_without_psi : RingsMet X s → beta_sum X ε ≡ RqOps.nil → checks X (altered ε (honest X s)) ≡ norms X s then accepted (cells_left X s)
  as_without_psi met zero = one_equation ∙ equation_holds X s ε met zero
