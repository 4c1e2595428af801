-- Demand 3 in its own words (`Demand3` in specs/Conditions): of a transcript that the prover makes, the verifier accepts exactly when the four conditions hold, never refuses, and
-- otherwise names the first of the four that fails, with its figures; of a witness that meets all constraints it accepts or names a norm.
use mathlib.Core.Path.{◌≡◌, refl, sym, ap, subst, ◌∙◌}
use mathlib.Core.Logic.{◌⊎◌, inl, inr}
use mathlib.Core.List.{List, [], ◌∷◌, List-discrete}
use Prim.Native.Nat.{ℕ, zero, suc, ◌*◌, ◌≤◌, ◌<◌}
use native.Mathlib.Nat.{not-suc-le-zero, eq-or-lt_of_le}
use native.Mathlib.Decide.{dec_le, ℕ_discrete}
use native.Mathlib.Omega.{arith}
use lib.ListN.{length, take}
use Rattle.spec_leaves.specs.Answer.{Answer, fine, accepted, refused, failed, number, ◌then◌}
use Rattle.spec_leaves.specs.Rq.{Element, rzero}
use Rattle.spec_leaves.specs.Ring.{words}
use Rattle.spec_protocol.specs.Checks.{require, first}
use Rattle.spec_protocol.specs.Parameters.{parameters}
use Rattle.spec_protocol.specs.Layout.{span, transcript_sections, scratch_need}
use Rattle.spec_protocol.specs.Views.{Public, public, witness}
use Rattle.spec_protocol.specs.Prover.{whole, prove, prove_output}
use Rattle.spec_protocol.specs.Verifier.{verify}
use Rattle.spec_protocol.specs.Conditions.{p_norm, psi_error, sent, computed, digit_sum, cells_left, alpha_error, conditions, Held, Named, all_hold, by_21, by_22, by_23, by_27, Meets, Demand3}
use Rattle.spec_protocol.proofs.Fine.{failed_not-accepted, failed_not-refused, refused_not-accepted, accepted-same}
use Rattle.spec_protocol.proofs.Corollary.{psi_error_zero, alpha_error_zero}
use Rattle.spec_protocol.proofs.Demand3.{demand_3}

-- the lowest k below n with a number that is not 0, and what is answered of it
data Lowest (e : ℕ → ℕ) (values : ℕ → List ℕ) (n : ℕ) : Answer → Type 0 where
  none : ((k : ℕ) → k < n → e k ≡ 0) → Lowest e values n fine
  lowest : (k : ℕ) → k < n → ((j : ℕ) → j < k → e j ≡ 0) → (e k ≡ 0 → ⊥) → Lowest e values n (failed 22 (values k))

module _ (e : ℕ → ℕ) (values : ℕ → List ℕ) where
  -- one more number that is 0
  all-next : (n : ℕ) → ((k : ℕ) → k < n → e k ≡ 0) → e n ≡ 0 → (k : ℕ) → k < suc n → e k ≡ 0
  all-next n h z k l = go (eq-or-lt_of_le l)
    where
      go : (suc k ≡ suc n) ⊎ (suc k < suc n) → e k ≡ 0
      go (inl same) = let q : n ≡ k = omega arith in subst (λ m. e m ≡ 0) q z
      go (inr less) = h k (omega arith)

  lowest_next : (n : ℕ) (a : Answer) → Lowest e values n a → (d : Dec (e n ≡ 0)) → Lowest e values (suc n) (a then require d (failed 22 (values n)))
  lowest_next n _ (none h) (yes z) = none (all-next n h z)
  lowest_next n _ (none h) (no bad) = lowest n (omega arith) h bad
  lowest_next n _ (lowest k l before bad) d = lowest k (omega arith) before bad

  search_lowest : (n : ℕ) → Lowest e values n (first n (λ k. require (ℕ_discrete (e k) 0) (failed 22 (values k))))
  unfolding first
  search_lowest zero = none (λ k l. absurd (not-suc-le-zero l))
  search_lowest (suc n) = lowest_next n _ (search_lowest n) (ℕ_discrete (e n) 0)

module _ (X : Public) (s : ℕ → ℕ → Element) where
  -- what the conditions answer, once each of the four is decided
  named_by : (d₁ : Dec (p_norm X s ≤ 128 * X.P.beta_sq)) (a : Answer) → Lowest (psi_error X s) (λ k. k ∷ sent X s k ∷ computed X s k ∷ []) X.P.L a
      → (d₃ : Dec (digit_sum X s ≤ X.P.beta_prime_sq)) (d₄ : Dec (words (alpha_error X s) ≡ rzero))
      → Named X s (require d₁ (failed 21 (p_norm X s ∷ 128 * X.P.beta_sq ∷ [])) then a then require d₃ (failed 23 (digit_sum X s ∷ X.P.beta_prime_sq ∷ [])) then require
      d₄ (failed 27 []) then accepted (cells_left X s))
  named_by (no bad) a l d₃ d₄ = by_21 (omega arith)
  named_by (yes h) _ (lowest k below before bad) d₃ d₄ = by_22 k h below before bad
  named_by (yes h) _ (none zeros) (no bad) d₄ = by_23 h zeros (omega arith)
  named_by (yes h) _ (none zeros) (yes g) (no bad) = by_27 h zeros g bad
  named_by (yes h) _ (none zeros) (yes g) (yes z) = all_hold (record { projection = h; psi = zeros; digits = g; alpha = z })

  -- the answer of the conditions names the first of the four that fails
  pub conditions_named : Named X s (conditions X s)
  unfolding conditions
  conditions_named =
      named_by (dec_le (p_norm X s) (128 * X.P.beta_sq)) _ (search_lowest (psi_error X s) (λ k. k ∷ sent X s k ∷ computed X s k ∷ []) X.P.L) (dec_le (digit_sum X s) X.P.beta_prime_sq)
      (List-discrete ℕ_discrete (words (alpha_error X s)) rzero)

module _ {X : Public} {s : ℕ → ℕ → Element} where
  -- where the answer is an acceptance, the four hold, and it has the number of cells with something left
  named_accepted : {a : Answer} → Named X s a → (cells : ℕ) → a ≡ accepted cells → Held X s × (cells ≡ cells_left X s)
  named_accepted (all_hold h) cells e = (h, sym (accepted-same (cells_left X s) cells e))
  named_accepted (by_21 f) cells e = absurd (failed_not-accepted _ _ cells e)
  named_accepted (by_22 k f l before bad) cells e = absurd (failed_not-accepted _ _ cells e)
  named_accepted (by_23 f zeros g) cells e = absurd (failed_not-accepted _ _ cells e)
  named_accepted (by_27 f zeros g bad) cells e = absurd (failed_not-accepted _ _ cells e)

  -- where the four hold, none is named
  held-accepted : {a : Answer} → Named X s a → Held X s → a ≡ accepted (cells_left X s)
  held-accepted (all_hold h) four = refl
  held-accepted (by_21 f) four = let l = four.projection in absurd (omega arith)
  held-accepted (by_22 k f l before bad) four = absurd (bad (four.psi k l))
  held-accepted (by_23 f zeros g) four = let l = four.digits in absurd (omega arith)
  held-accepted (by_27 f zeros g bad) four = absurd (bad four.alpha)

  -- no refusal is named
  named_not_refused : {a : Answer} → Named X s a → (number place : ℕ) → a ≡ refused number place → ⊥
  named_not_refused (all_hold h) number place e = refused_not-accepted number place (cells_left X s) (sym e)
  named_not_refused (by_21 f) number place e = failed_not-refused _ _ number place e
  named_not_refused (by_22 k f l before bad) number place e = failed_not-refused _ _ number place e
  named_not_refused (by_23 f zeros g) number place e = failed_not-refused _ _ number place e
  named_not_refused (by_27 f zeros g bad) number place e = failed_not-refused _ _ number place e

  -- where all constraints are met, only a norm is named
  named_norm : {a : Answer} → Named X s a → Meets X s → (a ≡ accepted (cells_left X s)) ⊎ ((number a ≡ 21) ⊎ (number a ≡ 23))
  named_norm (all_hold h) met = inl refl
  named_norm (by_21 f) met = inr (inl refl)
  named_norm (by_22 k f l before bad) met = absurd (bad (psi_error_zero X s met.constants k))
  named_norm (by_23 f zeros g) met = inr (inr refl)
  named_norm (by_27 f zeros g bad) met = absurd (bad (alpha_error_zero X s met.rings))

-- an answer that is the conditions' is as demand 3 says
pub stated : {X : Public} {s : ℕ → ℕ → Element} {a : Answer} → a ≡ conditions X s → Demand3 X s a
stated {X} {s} {a} e =
    let named : Named X s a = subst (Named X s) (sym e) (conditions_named X s) in
    record {
      accepts_exactly_when = λ cells. (named_accepted named cells, λ four. held-accepted named four.0 ∙ ap accepted (sym four.1));
      never_refuses = named_not_refused named;
      names_the_first = named;
      by_norm_only = named_norm named;
    }

-- the verifier's verdict on a transcript that the prover makes, handed over word for word, with scratch enough, is as demand 3 says
pub demand_3_stated : (J R W scratch output : List ℕ) (lent : ℕ)
    → prove whole J R W (length scratch) (length output) ≡ fine
    → scratch_need (parameters J) ≤ lent
    → Demand3 (public J R) (witness (parameters J) W) (verify J R (take (span (transcript_sections (parameters J))) (prove_output whole J R W scratch output)) lent)
demand_3_stated J R W scratch output lent proved enough = stated (demand_3 J R W scratch output lent proved enough)
