-- A witness that meets every constraint gets an acceptance, 21 or 23 of the conditions, and nothing else.
use mathlib.Core.Path.{◌≡◌, sym, ap, ◌∙◌}
use mathlib.Core.List.{[], ◌∷◌, List-discrete}
use Prim.Native.Nat.{ℕ, ◌*◌, ◌%◌, ◌<◌}
use native.Mathlib.Nat.{mul-zero}
use native.Mathlib.Decide.{dec_le, ℕ_discrete}
use Rattle.math.proofs.lists.Sum.{Σ_ext, Σ_zero}
use Rattle.math.proofs.algebra.Ring.{mul-nil}
use Rattle.math.proofs.algebra.Sum.{sum_is-nil}
use Rattle.spec_leaves.specs.Zq.{Q}
use Rattle.spec_leaves.specs.Answer.{accepted, failed, ◌then◌}
use Rattle.spec_leaves.specs.Rq.{Element, rzero}
use Rattle.spec_leaves.specs.Ring.{RqOps, words}
use Rattle.spec_leaves.proofs.RqRing.{rq_ring, words_path}
use Rattle.spec_leaves.proofs.Bridge.{words-nil}
use Rattle.spec_protocol.specs.Checks.{require}
use Rattle.spec_protocol.specs.Views.{Public}
use Rattle.spec_protocol.specs.Formulas.{◌⊗◌}
use Rattle.spec_protocol.specs.Conditions.{p_norm, constant_error, psi_error, sent, computed, digit_sum, cells_left, ring_error, alpha_error, conditions}
use Rattle.spec_protocol.proofs.Fine.{require-holds}
use Rattle.spec_protocol.proofs.Checks.{then_fine, first_fine}

module _ (X : Public) (s : ℕ → ℕ → Element) where
  -- where every constant-term constraint is met, each psi row's sum is zero
  pub psi_error_zero : ((x : ℕ) → x < X.P.l → constant_error X s x ≡ 0) → (k : ℕ) → psi_error X s k ≡ 0
  unfolding psi_error
  psi_error_zero met k = ap (λ x. x % Q)
      (Σ_ext X.P.l (λ x. X.psi k x * constant_error X s x) (λ x. 0) (λ x h. ap (◌*◌ (X.psi k x)) (met x h) ∙ mul-zero (X.psi k x)) ∙ Σ_zero X.P.l)

  -- where every ring constraint is met, Σ alpha_k·error_k is zero
  pub alpha_error_zero : ((k : ℕ) → k < X.P.K → words (ring_error X s k) ≡ rzero) → words (alpha_error X s) ≡ rzero
  unfolding alpha_error
  alpha_error_zero met =
      ap words (sum_is-nil RqOps rq_ring X.P.K (λ k. X.alpha k ⊗ ring_error X s k) (λ k h.
      ap (◌⊗◌ (X.alpha k)) (words_path (ring_error X s k) RqOps.nil (met k h ∙ sym words-nil)) ∙ mul-nil RqOps rq_ring (X.alpha k)))
      ∙ words-nil

-- of a witness that meets every constraint the conditions are the two on norms, in order, and then an acceptance
pub conditions_of_met : (X : Public) (s : ℕ → ℕ → Element)
    → ((x : ℕ) → x < X.P.l → constant_error X s x ≡ 0)
    → ((k : ℕ) → k < X.P.K → words (ring_error X s k) ≡ rzero)
    → conditions X s
    ≡ require (dec_le (p_norm X s) (128 * X.P.beta_sq)) (failed 21 (p_norm X s ∷ 128 * X.P.beta_sq ∷ []))
    then require (dec_le (digit_sum X s) X.P.beta_prime_sq) (failed 23 (digit_sum X s ∷ X.P.beta_prime_sq ∷ []))
    then accepted (cells_left X s)
unfolding conditions
conditions_of_met X s constants rings = (λ i.
    require (dec_le (p_norm X s) (128 * X.P.beta_sq)) (failed 21 (p_norm X s ∷ 128 * X.P.beta_sq ∷ []))
    then first_fine X.P.L (λ k. require (ℕ_discrete (psi_error X s k) 0) (failed 22 (k ∷ sent X s k ∷ computed X s k ∷ [])))
    (λ k h. require-holds (ℕ_discrete (psi_error X s k) 0) _ (psi_error_zero X s constants k)) i
    then require (dec_le (digit_sum X s) X.P.beta_prime_sq) (failed 23 (digit_sum X s ∷ X.P.beta_prime_sq ∷ []))
    then require-holds (List-discrete ℕ_discrete (words (alpha_error X s)) rzero) (failed 27 []) (alpha_error_zero X s rings) i
    then accepted (cells_left X s))
    ∙ simp then_fine
