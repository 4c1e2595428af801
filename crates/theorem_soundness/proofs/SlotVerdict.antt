-- Errors that are multiples of Q/p: with ε in one slot the verdict is one equation modulo p.
use mathlib.Core.Path.{◌≡◌, refl, sym, ap, ◌∙◌}
use mathlib.Core.Bool.{Bool, true, false, cond}
use mathlib.Core.Logic.{◌↔◌}
use mathlib.Core.List.{List, [], ◌∷◌}
use Prim.Native.Nat.{ℕ, zero, suc, ◌+◌, ◌*◌, ◌/◌, ◌%◌, ◌≤◌, ◌<◌}
use native.Mathlib.Nat as Nat
use native.Mathlib.Decide.{dec_le, ℕ_discrete}
use native.Mathlib.Omega.{arith}
use borrow.Author.Tests.{ne_eqb}
use lib.Dec.{eqb}
use lib.ListN.{length}
use Rattle.math.specs.lists.Sum.{Σ}
use Rattle.math.proofs.lists.Sum.{Σ_ext, Σ-mul-left, Σ-mod_ext, Σ-changed}
use Rattle.math.specs.algebra.Ops as Ops
use Rattle.math.proofs.algebra.Ring.{mul-neg, neg-nil, neg_inj}
use Rattle.math.proofs.algebra.Sum.{sum_ext, sum-neg}
use Rattle.spec_leaves.specs.Zq.{Q}
use Rattle.spec_leaves.specs.Answer.{fine, accepted, failed, ◌then◌}
use Rattle.spec_leaves.specs.Rq.{Element}
use Rattle.spec_leaves.specs.Ring.{Residue, residue, ZqOps, RqOps, words, scalar, scale, constant}
use Rattle.spec_leaves.proofs.Modulo.{mul_mod_second}
use Rattle.spec_leaves.proofs.ZqRing.{residue-mul, residue-reduced}
use Rattle.spec_leaves.proofs.RqRing.{rq_ring, words_path}
use Rattle.spec_leaves.proofs.Bridge.{words-nil}
use Rattle.spec_leaves.proofs.Scalar.{scale-plus, scale-scale, scale-mul}
use Rattle.spec_leaves.proofs.Conjugate.{constant-neg, constant-scale, constant-word}
use Rattle.spec_protocol.specs.Checks.{require}
use Rattle.spec_protocol.specs.Parameters.{parameters}
use Rattle.spec_protocol.specs.Layout.{scratch_need}
use Rattle.spec_protocol.specs.Views.{Public, public, witness}
use Rattle.spec_protocol.specs.Formulas.{◌⊕◌, ◌⊗◌, sum}
use Rattle.spec_protocol.specs.Prover.{whole, prove}
use Rattle.spec_protocol.specs.Conditions.{p_norm, constant_error, psi_error, digit_sum, cells_left, alpha_error}
use Rattle.spec_protocol.specs.Verifier.{same, checks, verify}
use Rattle.spec_protocol.proofs.Fine.{require-holds, then_both_fine}
use Rattle.spec_protocol.proofs.Checks.{require_iff}
use Rattle.spec_protocol.proofs.Corollary.{alpha_error_zero}
use Rattle.theorem_soundness.specs.Altered.{altered, altered_words, made_transcript, honest, beta_sum, Within, RingsMet, Corrects, norms}
use Rattle.theorem_soundness.specs.Share.{ExactlyOne}
use Rattle.theorem_soundness.specs.Weights.{shifted}
use Rattle.theorem_soundness.specs.Slot.{Slot, e, at_ζ, Multiples, v, ε, weighed_at_ζ}
use Rattle.theorem_soundness.proofs.Altered.{one_equation}
use Rattle.theorem_soundness.proofs.AlteredWords.{one_equation_of-words}
use Rattle.theorem_soundness.proofs.SlotOne.{exactly_one_iff, one_solution}
use Rattle.theorem_soundness.proofs.Slot.{positive, at_ζ-shifted, product_with_e, multiple_is_zero, constant-e}

module _ (S : Slot) where
  open S use {p}

  -- a sum of multiples of e
  sum_of_multiples : (n : ℕ) (w : ℕ → ℕ) → sum n (λ k. scale (e S) (w k)) ≡ scale (e S) (Σ n w)
  unfolding Σ Ops.sum
  sum_of_multiples zero w = sym ((multiple_is_zero S 0).1 (Nat.zero-mod p))
  sum_of_multiples (suc n) w = ap (λ x. x ⊕ scale (e S) (w n)) (sum_of_multiples n w) ∙ sym (scale-plus (e S) (Σ n w) (w n))

  module _ (X : Public) (m : ℕ → ℕ) where
    -- β_k⊗ε_k = −(v_k·β_k(ζ))·e
    weight : (k : ℕ) → X.beta k ⊗ ε S X m k ≡ RqOps.neg (scale (e S) (v S X m k * at_ζ S (X.beta k)))
    unfolding ε
    weight k =
        mul-neg RqOps rq_ring (X.beta k) (scale (e S) (v S X m k))
        ∙ ap RqOps.neg
        (sym (scale-mul (X.beta k) (e S) (v S X m k))
        ∙ ap (λ x. scale x (v S X m k)) (product_with_e S (X.beta k))
        ∙ scale-scale (e S) (at_ζ S (X.beta k)) (v S X m k)
        ∙ ap (scale (e S)) (Nat.mul_comm (at_ζ S (X.beta k)) (v S X m k)))

    -- Σ β_k⊗ε_k = −(Σ v_k·β_k(ζ))·e
    beta_sum_is : beta_sum X (ε S X m) ≡ RqOps.neg (scale (e S) (Σ X.P.L (λ k. v S X m k * at_ζ S (X.beta k))))
    unfolding beta_sum
    beta_sum_is =
        sum_ext RqOps X.P.L (λ k. X.beta k ⊗ ε S X m k) (λ k. RqOps.neg (scale (e S) (v S X m k * at_ζ S (X.beta k)))) (λ k h. weight k)
        ∙ sum-neg RqOps rq_ring X.P.L (λ k. scale (e S) (v S X m k * at_ζ S (X.beta k)))
        ∙ ap RqOps.neg (sum_of_multiples X.P.L (λ k. v S X m k * at_ζ S (X.beta k)))

    -- Σ β_k⊗ε_k = 0 exactly when Σ v_k·β_k(ζ) ≡ 0 modulo p
    pub beta_sum_zero : (beta_sum X (ε S X m) ≡ RqOps.nil) ↔ (weighed_at_ζ S X m X.beta ≡ 0)
    unfolding weighed_at_ζ
    beta_sum_zero =
        let total = Σ X.P.L (λ k. v S X m k * at_ζ S (X.beta k)) in (
          λ h. (multiple_is_zero S total).0 (neg_inj RqOps rq_ring (scale (e S) total) RqOps.nil (sym beta_sum_is ∙ h ∙ sym (neg-nil RqOps rq_ring))),
          λ h. beta_sum_is ∙ ap RqOps.neg ((multiple_is_zero S total).1 h) ∙ neg-nil RqOps rq_ring,
        )

    -- where v_k is a unit modulo p, exactly one of the weights β_k, β_k ⊕ 1, …, β_k ⊕ (p − 1) meets the equation
    pub one-beta : (β : ℕ → Element) (k u : ℕ) → k < X.P.L → u * v S X m k % p ≡ 1 → ExactlyOne p (λ j. weighed_at_ζ S X m (shifted β k (scalar j)) ≡ 0)
    unfolding weighed_at_ζ shifted
    one-beta β k u h unit = exactly_one_iff (λ j. (λ z. moved j ∙ z, λ z. sym (moved j) ∙ z)) (one_solution p (positive S) (v S X m k) u unit total)
      where
        total : ℕ
        total = Σ X.P.L (λ i. v S X m i * at_ζ S (β i))

        -- one term of the sum, reduced
        term : (j i : ℕ) (t : Bool) → v S X m i * at_ζ S (cond t (β i ⊕ scalar j) (β i)) % p ≡ v S X m i * cond t (at_ζ S (β i) + j) (at_ζ S (β i)) % p
        term j i true = sym (mul_mod_second p (v S X m i) (at_ζ S (β i ⊕ scalar j))) ∙ ap (λ n. v S X m i * n % p) (at_ζ-shifted S (β i) j) ∙ mul_mod_second p (v S X m i) (at_ζ S (β i) + j)
        term j i false = refl

        -- the changed value is that at k
        at_k : (j i : ℕ) → Dec (i ≡ k) → cond (eqb i k) (at_ζ S (β i) + j) (at_ζ S (β i)) ≡ cond (eqb i k) (at_ζ S (β k) + j) (at_ζ S (β i))
        at_k j i (yes same) = ap (λ x. cond (eqb i k) (at_ζ S (β x) + j) (at_ζ S (β i))) same
        at_k j i (no other) = ap (λ c. cond c (at_ζ S (β i) + j) (at_ζ S (β i))) (ne_eqb i k other) ∙ sym (ap (λ c. cond c (at_ζ S (β k) + j) (at_ζ S (β i))) (ne_eqb i k other))

        more : (a b c w j : ℕ) → a + w * c ≡ b + w * (c + j) → a ≡ b + w * j
        more a b c w j e = omega arith

        moved : (j : ℕ) → Σ X.P.L (λ i. v S X m i * at_ζ S (shifted β k (scalar j) i)) % p ≡ (total + v S X m k * j) % p
        moved j =
            Σ-mod_ext X.P.L p (λ i. v S X m i * at_ζ S (shifted β k (scalar j) i)) (λ i. v S X m i * cond (eqb i k) (at_ζ S (β k) + j) (at_ζ S (β i)))
            (λ i l. term j i (eqb i k) ∙ ap (λ n. v S X m i * n % p) (at_k j i (ℕ_discrete i k)))
            ∙ ap (λ n. n % p) (more _ total (at_ζ S (β k)) (v S X m k) j (Σ-changed X.P.L k (v S X m) (λ i. at_ζ S (β i)) (at_ζ S (β k) + j) h))

    module _ (s : ℕ → ℕ → Element) (multiples : Multiples S X m s) where
      -- psi-error_k = v_k·Q/p
      pub psi_error_multiple : (k : ℕ) → psi_error X s k ≡ Q / p * v S X m k % Q
      unfolding psi_error v
      psi_error_multiple k = ap (λ n. n % Q)
          (Σ_ext X.P.l (λ x. X.psi k x * constant_error X s x) (λ x. Q / p * (X.psi k x * m x)) (λ x h. ap (◌*◌ (X.psi k x)) (multiples x h) ∙ order (X.psi k x) (Q / p) (m x))
          ∙ Σ-mul-left X.P.l (Q / p) (λ x. X.psi k x * m x))
        where
          order : (w d n : ℕ) → w * (d * n) ≡ d * (w * n)
          order w d n = omega arith

      -- ε_k = −v_k·e has the constant coefficient that 22 wants
      pub slot_corrects : Corrects X s (ε S X m)
      unfolding ε constant
      slot_corrects k h =
          sym (constant-word (ε S X m k))
          ∙ ap (λ (x : Residue). x.0)
          (constant-neg (scale (e S) (v S X m k))
          ∙ ap ZqOps.neg
          (constant-scale (e S) (v S X m k)
          ∙ ap (λ n. ZqOps.mul (residue n) (residue (v S X m k))) (constant-e S)
          ∙ sym (residue-mul (Q / p) (v S X m k))
          ∙ sym (ap residue (psi_error_multiple k) ∙ residue-reduced (Q / p * v S X m k))))

      -- the ring constraints met, 27 asks that Σ v_k·β_k(ζ) ≡ 0 modulo p
      equation_is : RingsMet X s → require (same (alpha_error X s) (beta_sum X (ε S X m))) (failed 27 []) ≡ require (ℕ_discrete (weighed_at_ζ S X m X.beta) 0) (failed 27 [])
      equation_is met =
          let none = alpha_error_zero X s met ∙ sym words-nil in
          require_iff (same (alpha_error X s) (beta_sum X (ε S X m))) (ℕ_discrete (weighed_at_ζ S X m X.beta) 0) (failed 27 []) (failed 27 [])
          (λ h. beta_sum_zero.0 (words_path (beta_sum X (ε S X m)) RqOps.nil (sym h ∙ none)))
          (λ h. none ∙ ap words (sym (beta_sum_zero.1 h)))
          refl

      -- the verdict on the message with altered b'': 21, 23, and one equation modulo p
      pub one_slot : Within X s → RingsMet X s
          → checks X (altered (ε S X m) (honest X s)) ≡ norms X s then require (ℕ_discrete (weighed_at_ζ S X m X.beta) 0) (failed 27 []) then accepted (cells_left X s)
      one_slot within met = one_equation X s (ε S X m) within slot_corrects ∙ ap (λ x. norms X s then x then accepted (cells_left X s)) (equation_is met)

-- the same over the verifier's words: a prover's call that is refused nothing, and scratch enough for the verifier
module _ (J R W scratch output : List ℕ) (lent : ℕ) (proved : prove whole J R W (length scratch) (length output) ≡ fine) (enough : scratch_need (parameters J) ≤ lent) where
  -- the public values and the witness
  abbrev pub X : Public
  X = public J R

  abbrev pub s : ℕ → ℕ → Element
  s = witness (parameters J) W

  pub one_slot_of-words : (S : Slot) (m : ℕ → ℕ) → RingsMet X s → Multiples S X m s
      → verify J R (altered_words (parameters J) (ε S X m) (made_transcript J R W scratch output)) lent
      ≡ norms X s then require (ℕ_discrete (weighed_at_ζ S X m X.beta) 0) (failed 27 []) then accepted (cells_left X s)
  one_slot_of-words S m met multiples =
      one_equation_of-words J R W scratch output lent proved enough (ε S X m) (slot_corrects S X m s multiples)
      ∙ ap (λ x. norms X s then x then accepted (cells_left X s)) (equation_is S X m s multiples met)

  -- the equation met and both norms within their limits, the transcript is accepted, whatever multiples of Q/p the constant-term errors are
  pub accepted_in-one_slot : (S : Slot) (m : ℕ → ℕ) → RingsMet X s → Multiples S X m s
      → p_norm X s ≤ 128 * X.P.beta_sq → digit_sum X s ≤ X.P.beta_prime_sq → weighed_at_ζ S X m X.beta ≡ 0
      → verify J R (altered_words (parameters J) (ε S X m) (made_transcript J R W scratch output)) lent ≡ accepted (cells_left X s)
  unfolding norms
  accepted_in-one_slot S m met multiples projection digits solved =
      one_slot_of-words S m met multiples
      ∙ (λ i.
      then_both_fine (require-holds (dec_le (p_norm X s) (128 * X.P.beta_sq)) (failed 21 (p_norm X s ∷ 128 * X.P.beta_sq ∷ [])) projection)
      (require-holds (dec_le (digit_sum X s) X.P.beta_prime_sq) (failed 23 (digit_sum X s ∷ X.P.beta_prime_sq ∷ [])) digits) i
      then require-holds (ℕ_discrete (weighed_at_ζ S X m X.beta) 0) (failed 27 []) solved i
      then accepted (cells_left X s))
