-- Which numbers an answer may be refused by: of all tests before the work, and of the prover's norms.
use mathlib.Core.Path.{◌≡◌, refl}
use mathlib.Core.Bool.{Bool, true, false, cond}
use mathlib.Core.List.{List, [], ◌∷◌}
use Prim.Native.Nat.{ℕ, zero, suc, ◌+◌, ◌<◌}
use native.Mathlib.Decide.{dec_le}
use native.Mathlib.Omega.{arith}
use lib.Dec.{ltb, eqb}
use lib.ListN.{length, get_or, take}
use Rattle.math.specs.lists.Part.{part}
use Rattle.math.specs.lists.Table.{table}
use Rattle.spec_leaves.specs.Zq.{top_Q}
use Rattle.spec_leaves.specs.Answer.{Answer, fine, refused, number, below, ◌then◌}
use Rattle.spec_leaves.specs.Leaf.{limited}
use Rattle.spec_leaves.specs.Rq.{Element}
use Rattle.spec_protocol.specs.Checks.{require, first}
use Rattle.spec_protocol.specs.Parameters.{Parameters, parameters, rounded_up, limits, enough_aggregations}
use Rattle.spec_protocol.specs.Layout.{Section, Range, free, under, span, counted, ranged, in_range, layout, first_section, job_sections, randomness_sections}
use Rattle.spec_protocol.specs.Layout.{witness_sections, transcript_sections}
use Rattle.spec_protocol.specs.Layout.{job_refusal, randomness_refusal, witness_refusal, transcript_refusal, scratch_need}
use Rattle.spec_protocol.specs.Views.{Public, public, witness}
use Rattle.spec_protocol.specs.Formulas as F
use Rattle.spec_protocol.specs.Formulas.{norm_of, t_digits, g_digits, h_digits}
use Rattle.spec_protocol.specs.Prover.{Call, made_sections, prove_refusal, witness_norm, t_norm, g_norm, h_norm, work_refusal, prove}
use Rattle.spec_protocol.specs.Verifier.{verify_refusal}
use Rattle.spec_protocol.specs.Load.{Given, load_parameters, load_job_sections, load_refusal}

-- all is well, or a refusal whose number is among some
pub data Refuses (Among : ℕ → Type 0) : Answer → Type 0 where
  well : Refuses Among fine
  by : (number place : ℕ) → Among number → Refuses Among (refused number place)

-- where no number is 0, the number 0 says that all is well
pub zero_well : {a : Answer} → Refuses (λ n. 0 < n) a → number a ≡ 0 → a ≡ fine
zero_well well e = refl
zero_well (by n p h) e = absurd (omega arith)

module _ {Among : ℕ → Type 0} where
  infixl 20 ◌and◌
  -- two such answers, one after the other
  pub ◌and◌ : {a b : Answer} → Refuses Among a → Refuses Among b → Refuses Among (a then b)
  well and y = y
  by n p h and y = by n p h

  -- a fact that is tested
  pub test {ℓ} : {A : Type ℓ} (d : Dec A) (number place : ℕ) → Among number → Refuses Among (require d (refused number place))
  test (yes a) number place h = well
  test (no a) number place h = by number place h

  pub either : (t : Bool) {a b : Answer} → Refuses Among a → Refuses Among b → Refuses Among (cond t a b)
  either true x y = x
  either false x y = y

  pub each : (n : ℕ) (f : ℕ → Answer) → ((i : ℕ) → Refuses Among (f i)) → Refuses Among (first n f)
  unfolding first
  each zero f h = well
  each (suc n) f h = each n f h and h n

  -- a slice's sections
  module _ (number : ℕ) (h : Among number) where
    words-below : (limit place : ℕ) (ws : List ℕ) → Refuses Among (below limit number place ws)
    unfolding below
    words-below limit place [] = well
    words-below limit place (w ∷ ws) = either (ltb w limit) (words-below limit (place + 1) ws) (by number place h)

    words_in : (range : Range) (place : ℕ) (ws : List ℕ) → Refuses Among (in_range range number place ws)
    words_in free place ws = well
    words_in (under limit) place ws = words-below limit place ws

    pub of_ranges : (ws : List ℕ) (place : ℕ) (ss : List Section) → Refuses Among (ranged number ws place ss)
    unfolding ranged
    of_ranges ws place [] = well
    of_ranges ws place (s ∷ ss) = words_in s.range (place + 1) (part ws (place + 1) s.count) and of_ranges ws (place + 1 + s.count) ss

    pub of_counts : (ws : List ℕ) (place : ℕ) (ss : List Section) → Refuses Among (counted number ws place ss)
    unfolding counted
    of_counts ws place [] = well
    of_counts ws place (s ∷ ss) =
        either (ltb place (length ws))
        (either (eqb (get_or ws place 0) s.count) (test (dec_le (place + 1 + s.count) (length ws)) number (length ws) h and of_counts ws (place + 1 + s.count) ss) (by number place h))
        (by number (length ws) h)

    pub of_layout : (ws : List ℕ) (place : ℕ) (ss : List Section) → Refuses Among (layout number ws place ss)
    unfolding layout
    of_layout ws place ss = of_counts ws place ss and test (dec_le (length ws) (place + span ss)) number (place + span ss) h

  -- the parameters
  module _ (four : Among 4) where
    within : (least greatest place x : ℕ) → Refuses Among (limited least greatest place x)
    within least greatest place x = either (ltb x least) (by 4 place four) (either (ltb greatest x) (by 4 place four) well)

    pub of_limits : (P : Parameters) → Refuses Among (limits P)
    unfolding limits
    of_limits P =
        within 1 64 1 P.n
        and within 1 16 2 P.r
        and within 1 16 3 P.κ
        and within 1 16 4 P.κ₁
        and within 1 16 5 P.κ₂
        and within 0 64 6 P.K
        and within 0 64 7 P.l
        and test (dec_le 1 (P.K + P.l)) 4 7 four
        and within 16 32 8 P.log_q
        and within 2 top_Q 9 P.b
        and within 1 32 10 P.t₁
        and within 1 32 11 P.t₂
        and within 1 32 12 P.L

  pub of_aggregations : Among 5 → (P : Parameters) → Refuses Among (enough_aggregations P)
  unfolding enough_aggregations
  of_aggregations five P = test (dec_le (rounded_up P.log_q) P.L) 5 12 five

-- numbers from 1 to 12, and what is refused before the work
abbrev pub BeforeWork : ℕ → Type 0
BeforeWork n = (0 < n) × (n < 13)

module _ {Among : ℕ → Type 0} (all : (n : ℕ) → BeforeWork n → Among n) where
  pub of_job : (J : List ℕ) → Refuses Among (job_refusal J)
  unfolding job_refusal
  of_job J =
      let P = parameters J in
      of_counts 3 (all 3 (omega arith, omega arith)) J 0 first_section
      and of_limits (all 4 (omega arith, omega arith)) P
      and of_aggregations (all 5 (omega arith, omega arith)) P
      and of_layout 3 (all 3 (omega arith, omega arith)) J 31 (job_sections P)
      and of_ranges 6 (all 6 (omega arith, omega arith)) J 31 (job_sections P)

  of_slice : (n m : ℕ) → BeforeWork n → BeforeWork m → (ws : List ℕ) (ss : List Section) → Refuses Among (layout n ws 0 ss then ranged m ws 0 ss)
  of_slice n m h k ws ss = of_layout n (all n h) ws 0 ss and of_ranges m (all m k) ws 0 ss

  pub of_scratch : (P : Parameters) (lent : ℕ) → Refuses Among (require (dec_le (scratch_need P) lent) (refused 1 (scratch_need P)))
  of_scratch P lent = test (dec_le (scratch_need P) lent) 1 (scratch_need P) (all 1 (omega arith, omega arith))

  pub of_output : (ss : List Section) (lent : ℕ) → Refuses Among (require (dec_le (span ss) lent) (refused 2 (span ss)))
  of_output ss lent = test (dec_le (span ss) lent) 2 (span ss) (all 2 (omega arith, omega arith))

  pub of_prover : (call : Call) (J R W : List ℕ) (scratch output : ℕ) → Refuses Among (prove_refusal call J R W scratch output)
  unfolding prove_refusal randomness_refusal witness_refusal
  of_prover call J R W scratch output =
      let P = parameters J in
      of_job J
      and of_slice 7 8 (omega arith, omega arith) (omega arith, omega arith) R (take call.handed (randomness_sections P))
      and of_slice 11 12 (omega arith, omega arith) (omega arith, omega arith) W (witness_sections P)
      and of_scratch P scratch
      and of_output (made_sections call P) output

  pub of_verifier : (J R T : List ℕ) (scratch : ℕ) → Refuses Among (verify_refusal J R T scratch)
  unfolding verify_refusal randomness_refusal transcript_refusal
  of_verifier J R T scratch =
      let P = parameters J in
      of_job J
      and of_slice 7 8 (omega arith, omega arith) (omega arith, omega arith) R (take 7 (randomness_sections P))
      and of_slice 9 10 (omega arith, omega arith) (omega arith, omega arith) T (transcript_sections P)
      and of_scratch P scratch

-- the prover's norms
module _ {Among : ℕ → Type 0} (X : Public) where
  pub of_witness_norm : Among 13 → (s : ℕ → ℕ → Element) → Refuses Among (witness_norm X s)
  unfolding witness_norm
  of_witness_norm h s =
      each X.P.r (λ i. require (dec_le (norm_of (table X.P.n (s i))) X.P.bound_A) (refused 13 i))
      (λ i. test (dec_le (norm_of (table X.P.n (s i))) X.P.bound_A) 13 i h)

  pub of_digit_norms : Among 14 → Among 15 → Among 16 → (t g h : ℕ → ℕ → Element) (has_h : Bool) → Refuses Among (t_norm X t then g_norm X g then cond has_h (h_norm X h) fine)
  unfolding t_norm g_norm h_norm
  of_digit_norms h14 h15 h16 t g h has_h =
      test (dec_le (norm_of (t_digits X t)) X.P.bound_B) 14 0 h14
      and test (dec_le (norm_of (g_digits X g)) X.P.bound_C) 15 0 h15
      and either has_h (test (dec_le (norm_of (h_digits X h)) X.P.bound_D) 16 0 h16) well

-- a call of the prover that is refused by no number 0
pub of_prove : (call : Call) (J R W : List ℕ) (scratch output : ℕ) → Refuses (λ n. 0 < n) (prove call J R W scratch output)
unfolding prove work_refusal t_norm g_norm h_norm
of_prove call J R W scratch output =
    let X = public J R in
    let s = witness (parameters J) W in
    of_prover (λ n h. h.0) call J R W scratch output
    and (of_witness_norm X (omega arith) s
    and test (dec_le (norm_of (t_digits X (F.t X s))) X.P.bound_B) 14 0 (omega arith)
    and test (dec_le (norm_of (g_digits X (F.g X s))) X.P.bound_C) 15 0 (omega arith)
    and either call.has_h (test (dec_le (norm_of (h_digits X (F.h X s))) X.P.bound_D) 16 0 (omega arith)) well)

-- a test load
pub of_load : (G : Given) (job witness randomness : ℕ) → Refuses (λ n. 0 < n) (load_refusal G job witness randomness)
unfolding load_refusal
of_load G job witness randomness =
    let P = load_parameters G in
    of_limits (omega arith) P
    and of_aggregations (omega arith) P
    and of_output (λ n h. h.0) (load_job_sections G) job
    and of_output (λ n h. h.0) (witness_sections P) witness
    and of_output (λ n h. h.0) (randomness_sections P) randomness
