-- Check 22 as the code makes it.
use mathlib.Core.Path.{◌≡◌, refl, sym, ap, ap₂, subst, ◌∙◌}
use mathlib.Core.List.{List, [], ◌∷◌}
use Prim.Native.Nat.{ℕ, ◌+◌, ◌*◌, ◌%◌, ◌≤◌, ◌<◌}
use native.Mathlib.Nat.{zero-add, add-zero, add_assoc, mod-eq_of_lt}
use native.Mathlib.Decide.{ℕ_discrete}
use native.Mathlib.Omega.{arith}
use lib.ListN.{length, get_or}
use Rattle.math.specs.lists.Part.{part}
use Rattle.math.specs.lists.Sum.{Σ}
use Rattle.math.proofs.lists.Sum.{Σ_ext}
use Rattle.math.proofs.lists.Splice.{get_d_part}
use Rattle.spec_leaves.specs.Zq.{Q}
use Rattle.spec_leaves.specs.Rq.{coeff}
use Rattle.spec_leaves.specs.Ring.{words}
use Rattle.spec_leaves.specs.Answer.{Answer, failed}
use Rattle.spec_leaves.proofs.Bridge.{coeff-element}
use Rattle.ring_rq_matrix.proofs.Place.{rows-within}
use Rattle.spec_protocol.specs.Checks.{require, first}
use Rattle.spec_protocol.specs.Parameters.{Parameters, parameters}
use Rattle.spec_protocol.specs.Layout.{start, job_sections, randomness_sections, transcript_sections}
use Rattle.spec_protocol.specs.Views.{public, message}
use Rattle.spec_protocol.specs.Verifier.{check_22}
use Rattle.relation_env_params.specs.declared.env_params.EnvironmentParameters.{EnvironmentParameters}
use Rattle.relation_env_params.specs.Parameters.{parameters_of}
use Rattle.verifier_common.specs.Work.{Sent}
use Rattle.verifier_constant_terms.specs.Terms.{constant_term}

-- the constant coefficient of b''_k as it is sent
abbrev sent_word : (J T : List ℕ) → ℕ → ℕ
sent_word J T k = coeff (words ((message (parameters J) T).b'' k)) 0

-- and as it is computed
abbrev computed-word : (J R T : List ℕ) → ℕ → ℕ
computed-word J R T k = (Σ (parameters J).l (λ x. (public J R).psi k x * (public J R).b₀ x) + Σ 256 (λ j. (public J R).omega k j * (message (parameters J) T).p j)) % Q

-- the test of row k
abbrev pub test : (J R T : List ℕ) → ℕ → Answer
test J R T k = require (ℕ_discrete (sent_word J T k) (computed-word J R T k)) (failed 22 (k ∷ sent_word J T k ∷ computed-word J R T k ∷ []))

-- 22 is the tests one after the other
pub check_22_is : (J R T : List ℕ) → first (parameters J).L (test J R T) ≡ check_22 (public J R) (message (parameters J) T)
unfolding check_22
check_22_is J R T = refl

-- sizes and places at which the tests can be made, and what they find there
pub record Terms (J R T : List ℕ) (L l b0 psi om projection at : ℕ) : Type 0 where
  pub rows : L ≡ (parameters J).L
  pub few : L ≤ 32
  pub short : l ≤ 64
  pub b0_room : b0 + l ≤ length J
  pub psi-room : (k : ℕ) → k < L → psi + k * l + l ≤ length R
  pub om_room : (k : ℕ) → k < L → om + k * 256 + 256 ≤ length R
  pub projection-room : projection + 256 ≤ length T
  pub at_room : (k : ℕ) → k < L → at + 64 * k < length T
  pub sent_is : (k : ℕ) → k < L → sent_word J T k ≡ get_or T (at + 64 * k) 0
  pub computed_is : (k : ℕ) → computed-word J R T k ≡ constant_term J b0 l R (psi + k * l) (om + k * 256) T projection

-- row k of n rows of l words ends within them
psi-within : (a k n l len : ℕ) → k < n → a + n * l ≤ len → a + k * l + l ≤ len
psi-within a k n l len h e = omega (arith, rows-within k n l h)

-- row k of n rows of 256 words ends within them
om_within : (a k n len : ℕ) → k < n → a + n * 256 ≤ len → a + k * 256 + 256 ≤ len
om_within a k n len h e = omega arith

-- the 256 words of a section that starts after no words
p-within : (a len : ℕ) → 0 + a + 256 ≤ len → a + 256 ≤ len
p-within a len e = omega arith

-- the first word of element k of n
b-within : (a k n len : ℕ) → k < n → 0 + a + 64 * n ≤ len → a + 64 * k < len
b-within a k n len h e = omega arith

-- its place among the words
b-index : (k n : ℕ) → k < n → 64 * k < 64 * n
b-index k n h = omega arith

-- the first word of an element of canonical words
first_word : (T : List ℕ) (from : ℕ) → get_or T from 0 < Q → get_or (part T from 64) 0 0 % Q ≡ get_or T from 0
first_word T from h = ap (λ x. x % Q) (get_d_part 0 T from 64 0 (omega arith) ∙ ap (λ i. get_or T i 0) (add-zero from)) ∙ mod-eq_of_lt h

module _ {J R T : List ℕ} {params : EnvironmentParameters} (w : Sent J R T params) where
  -- the job's parameters
  abbrev P : Parameters
  P = parameters J

  -- where b'' starts
  abbrev at_b'' : ℕ
  at_b'' = start (transcript_sections P) 2

  -- the words of b'' are canonical
  canonical-word : (k : ℕ) → k < P.L → get_or T (at_b'' + 64 * k) 0 < Q
  canonical-word k h =
      subst (λ i. get_or T (i + 64 * k) 0 < Q) (zero-add at_b'') (w.posed.transcript.ranges 2 (64 * k) (omega arith) (b-index k P.L h))

  -- at the places of the sections
  at_sections : Terms J R T P.L P.l (31 + start (job_sections P) 2) (start (randomness_sections P) 1) (start (randomness_sections P) 2) (start (transcript_sections P) 1)
      (start (transcript_sections P) 2)
  at_sections = record {
    rows = refl;
    few = w.posed.sound.within.L.1;
    short = w.posed.sound.within.l.1;
    b0_room = w.posed.job.inside 2 (omega arith);
    psi-room = λ k h. psi-within (start (randomness_sections P) 1) k P.L P.l (length R) h (w.drawn 1 (omega arith));
    om_room = λ k h. om_within (start (randomness_sections P) 2) k P.L (length R) h (w.drawn 2 (omega arith));
    projection-room = p-within (start (transcript_sections P) 1) (length T) (w.posed.transcript.inside 1 (omega arith));
    at_room = λ k h. b-within at_b'' k P.L (length T) h (w.posed.transcript.inside 2 (omega arith));
    sent_is = λ k h. coeff-element (part T (at_b'' + 64 * k) 64) 0 (omega arith) ∙ first_word T (at_b'' + 64 * k) (canonical-word k h);
    computed_is = λ k.
        let psi = start (randomness_sections P) 1 in
        let om = start (randomness_sections P) 2 in
        let b0 = 31 + start (job_sections P) 2 in
        let pr = start (transcript_sections P) 1 in
        ap₂ (λ x y. (x + y) % Q)
        (Σ_ext P.l (λ x. get_or R (psi + (k * P.l + x)) 0 * get_or J (b0 + x) 0) (λ x. get_or R (psi + k * P.l + x) 0 * get_or J (b0 + x) 0)
        (λ x h. ap (λ i. get_or R i 0 * get_or J (b0 + x) 0) (sym (add_assoc psi (k * P.l) x))))
        (Σ_ext 256 (λ j. get_or R (om + (k * 256 + j)) 0 * get_or T (pr + j) 0) (λ j. get_or R (om + k * 256 + j) 0 * get_or T (pr + j) 0)
        (λ j h. ap (λ i. get_or R i 0 * get_or T (pr + j) 0) (sym (add_assoc om (k * 256) j))));
  }

  -- at the places that `offsets` gives
  pub terms : (b0 psi om projection at : ℕ) → b0 ≡ 31 + start (job_sections (parameters_of params)) 2 → psi ≡ start (randomness_sections (parameters_of params)) 1
      → om ≡ start (randomness_sections (parameters_of params)) 2 → projection ≡ start (transcript_sections (parameters_of params)) 1 → at ≡ start (transcript_sections (parameters_of params)) 2
      → Terms J R T params.const_agg_length params.constraint_l b0 psi om projection at
  terms b0 psi om projection at e₁ e₂ e₃ e₄ e₅ =
      subst (λ b0. Terms J R T params.const_agg_length params.constraint_l b0 psi om projection at) (sym e₁)
      (subst (λ psi. Terms J R T params.const_agg_length params.constraint_l (31 + start (job_sections (parameters_of params)) 2) psi om projection at) (sym e₂)
      (subst (λ om. Terms J R T params.const_agg_length params.constraint_l (31 + start (job_sections (parameters_of params)) 2)
      (start (randomness_sections (parameters_of params)) 1) om projection at) (sym e₃)
      (subst (λ pr. Terms J R T params.const_agg_length params.constraint_l (31 + start (job_sections (parameters_of params)) 2)
      (start (randomness_sections (parameters_of params)) 1) (start (randomness_sections (parameters_of params)) 2) pr at) (sym e₄)
      (subst (λ at. Terms J R T params.const_agg_length params.constraint_l (31 + start (job_sections (parameters_of params)) 2)
      (start (randomness_sections (parameters_of params)) 1) (start (randomness_sections (parameters_of params)) 2) (start (transcript_sections (parameters_of params)) 1) at) (sym e₅)
      (subst (λ (P : Parameters). Terms J R T P.L P.l (31 + start (job_sections P) 2) (start (randomness_sections P) 1) (start (randomness_sections P) 2)
      (start (transcript_sections P) 1) (start (transcript_sections P) 2)) (sym w.posed.same) at_sections)))))

module _ {J R T : List ℕ} {L l b0 psi om projection at : ℕ} (m : Terms J R T L l b0 psi om projection at) where
  -- the test of row k by the values that the code has
  pub test_is : (k computed : ℕ) → k < L → computed ≡ constant_term J b0 l R (psi + k * l) (om + k * 256) T projection
      → test J R T k ≡ require (ℕ_discrete (get_or T (at + 64 * k) 0) computed) (failed 22 (k ∷ get_or T (at + 64 * k) 0 ∷ computed ∷ []))
  test_is k computed h e = ap₂ (λ x y. require (ℕ_discrete x y) (failed 22 (k ∷ x ∷ y ∷ []))) (m.sent_is k h) (m.computed_is k ∙ sym e)
