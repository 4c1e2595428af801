-- "Where low equals high throughout, the answer agrees with refusal 13." (document 02, Item 14), over the structs of `labrador_ranges` and `labrador_prove`.
use mathlib.Core.Path.{◌≡◌, refl, sym, ap, subst, ◌∙◌}
use mathlib.Core.Logic.{◌⊎◌, inl, inr}
use mathlib.Core.Bool.{cond}
use mathlib.Core.List.{List, []}
use Prim.Native.Nat.{ℕ, zero, suc, ◌≤◌, ◌<◌, min}
use native.Mathlib.Nat.{not-suc-le-zero, eq-or-lt_of_le}
use native.Mathlib.Decide.{dec_le, ℕ_discrete}
use native.Mathlib.Omega.{arith}
use borrow.Author.Tests.{eq-eqb, ne_eqb}
use lib.Dec.{eqb}
use lib.IntN.{ℤ, nat_abs}
use lib.Signed.{le_z}
use lib.ListN.{length, get_or, replicate}
use Rattle.math.specs.lists.Table.{padded}
use Rattle.math.proofs.lists.Padded.{padded-below}
use Rattle.spec_leaves.specs.Zq.{half_Q}
use Rattle.spec_leaves.specs.Answer.{Answer, fine, refused, number, place, result_of, ◌then◌}
use Rattle.spec_protocol.specs.Checks.{first}
use Rattle.spec_protocol.specs.Parameters.{Parameters, parameters}
use Rattle.spec_protocol.specs.Layout.{job_refusal}
use Rattle.spec_protocol.specs.Views.{public, witness}
use Rattle.spec_protocol.specs.Formulas as F
use Rattle.spec_protocol.specs.Prover.{Call, prove_refusal, witness_norm, t_norm, g_norm, h_norm, work_refusal, prove}
use Rattle.spec_protocol.specs.Ranges.{number_at, Meets, every, some_only, none, unused, vector, ranges_count, size_refusal, beyond_refusal, crossed_refusal}
use Rattle.spec_protocol.specs.Ranges.{pairs_refusal, ranges_refusal, exact_witness}
use Rattle.spec_protocol.proofs.Checks.{first_ext}
use Rattle.spec_protocol.proofs.Then.{then_assoc}
use Rattle.spec_protocol.proofs.Fine.{then_fine_left}
use Rattle.admission_slices.proofs.Ready.{job-sized}
use Rattle.api_answers.specs.declared.verdicts.LabradorAnswer.{LabradorAnswer}
use Rattle.api_answers.specs.Whole.{ProveCall}
use Rattle.ranges_vectors.specs.declared.vectors.RangeNorms.{RangeNorms}
use Rattle.ranges_vectors.specs.Vectors.{range_norms}
use Rattle.ranges.specs.declared.answers.RangesAnswer.{RangesAnswer}
use Rattle.ranges.specs.Answers.{RangesCall}
use Rattle.ranges.proofs.Exact.{exact_meets, exact_13}
use Rattle.theorem_exports.specs.Told.{meets_at, LowestAbove}
use Rattle.spec_protocol.proofs.Refuses.{Refuses, well, by, zero_well, ◌and◌, test, either, each, BeforeWork, of_job, of_prover, of_digit_norms}

-- a number of a pair
of_size : (j : ℕ) (x : ℤ) → Refuses (λ n. 0 < n) (size_refusal j x)
of_size j x = test (dec_le (nat_abs x) half_Q) 37 j (omega arith)

-- a call on ranges that answers 0 is refused nothing
of_ranges_call : (J : List ℕ) (lows highs : List ℤ) → Refuses (λ n. 0 < n) (ranges_refusal J lows highs)
unfolding ranges_refusal pairs_refusal beyond_refusal crossed_refusal
of_ranges_call J lows highs =
    let count = ranges_count (parameters J) in
    of_job (λ n h. h.0) J
    and (test (ℕ_discrete (length lows) count) 11 (min (length lows) count) (omega arith)
    and test (ℕ_discrete (length highs) count) 11 (min (length highs) count) (omega arith)
    and each count (λ j. size_refusal j (number_at lows j) then size_refusal j (number_at highs j)) (λ j. of_size j (number_at lows j) and of_size j (number_at highs j))
    and each count (λ j. cond (le_z (number_at lows j) (number_at highs j)) fine (refused 36 j)) (λ j. either (le_z (number_at lows j) (number_at highs j)) well (by 36 j (omega arith))))

-- of n vectors each of which meets the bound for every choice, 1, or for none, 3: the lowest of the latter is refused with 13
data First13 (meets : ℕ → ℕ) (n : ℕ) : Answer → Type 0 where
  all_met : ((j : ℕ) → j < n → meets j ≡ 1) → First13 meets n fine
  above_at : (i : ℕ) → i < n → meets i ≡ 3 → ((j : ℕ) → j < i → meets j ≡ 1) → First13 meets n (refused 13 i)

module _ (meets : ℕ → ℕ) where
  one_more : (n : ℕ) → ((j : ℕ) → j < n → meets j ≡ 1) → meets n ≡ 1 → (j : ℕ) → j < suc n → meets j ≡ 1
  one_more n f e j l = go (eq-or-lt_of_le l)
    where
      go : (suc j ≡ suc n) ⊎ (suc j < suc n) → meets j ≡ 1
      go (inl same) = let q : n ≡ j = omega arith in subst (λ m. meets m ≡ 1) q e
      go (inr less) = f j (omega arith)

  next_13 : (n : ℕ) {a : Answer} → First13 meets n a → (meets n ≡ 1) ⊎ (meets n ≡ 3) → First13 meets (suc n) (a then cond (eqb (meets n) 3) (refused 13 n) fine)
  next_13 n (above_at i l e f) d = above_at i (omega arith) e f
  next_13 n (all_met f) (inl one) = subst (λ b. First13 meets (suc n) (cond b (refused 13 n) fine)) (sym (ne_eqb (meets n) 3 (λ three. omega arith))) (all_met (one_more n f one))
  next_13 n (all_met f) (inr three) = subst (λ b. First13 meets (suc n) (cond b (refused 13 n) fine)) (sym (eq-eqb (meets n) 3 three)) (above_at n (omega arith) three f)

  first_13 : (n : ℕ) → ((i : ℕ) → i < n → (meets i ≡ 1) ⊎ (meets i ≡ 3)) → First13 meets n (first n (λ i. cond (eqb (meets i) 3) (refused 13 i) fine))
  unfolding first
  first_13 zero h = all_met (λ j l. absurd (not-suc-le-zero l))
  first_13 (suc n) h = next_13 n (first_13 n (λ i l. h i (omega arith))) (h n (omega arith))

-- an answer with refusals by 1 to 12 before, and by other numbers than 13 after it
module _ (r : RangesAnswer) (n : ℕ) where
  at_13 : {a w rest : Answer} → Refuses BeforeWork a → First13 (meets_at r) n w → Refuses (λ m. 13 < m) rest → number (a then (w then rest)) ≡ 13 → LowestAbove r n (place (a then (w then rest)))
  at_13 (by m p h) f x e = let l = h.1 in absurd (omega arith)
  at_13 well (above_at i l three before) x e = record { within = l; above = three; met_before = before }
  at_13 well (all_met f) (by m p h) e = absurd (omega arith)
  at_13 well (all_met f) well e = absurd (omega arith)

  none_13 : {a w : Answer} (rest : Answer) → Refuses BeforeWork a → First13 (meets_at r) n w → number (a then (w then rest)) ≡ 0 → (i : ℕ) → i < n → meets_at r i ≡ 1
  none_13 rest (by m p h) f e = let l = h.0 in absurd (omega arith)
  none_13 rest well (above_at i l three before) e = absurd (omega arith)
  none_13 rest well (all_met f) e = f

  is_13 : {a w : Answer} (rest : Answer) → Refuses BeforeWork a → First13 (meets_at r) n w → (i : ℕ) → i < n → meets_at r i ≡ 3
      → (0 < number (a then (w then rest)) → number (a then (w then rest)) < 13 → ⊥) → number (a then (w then rest)) ≡ 13
  is_13 rest (by m p h) f i l three later = absurd (later h.0 h.1)
  is_13 rest well (above_at i' l' three' before) i l three later = refl
  is_13 rest well (all_met f) i l three later = let one = f i l in absurd (omega arith)

-- a call of `labrador_ranges` whose lows are its highs, which answers 0
module _ (J : List ℕ) (xs : List ℤ) (r : RangesAnswer) (told : RangesCall J xs xs r) (zero : r.number ≡ 0) where
  abbrev P : Parameters
  P = parameters J

  ok : ranges_refusal J xs xs ≡ fine
  ok = zero_well (of_ranges_call J xs xs) (sym (ap (λ (a : RangesAnswer). a.number) told.answer) ∙ zero)

  r-within : P.r ≤ 16
  unfolding ranges_refusal
  r-within = (job-sized J P (sym (then_fine_left (job_refusal J) (pairs_refusal P xs xs) ok)) refl).within.r.1

  told_at : (i : ℕ) → i < P.r → meets_at r i ≡ (told.vectors i).meets
  told_at i h =
      let f : ℕ → RangeNorms = λ i. range_norms (told.vectors i) in
      ap (λ (a : RangesAnswer). meets_at a i) told.answer
      ∙ ap (λ a. (get_or (result_of a (padded 16 P.r (range_norms unused) f) (replicate 16 (range_norms unused))) i (range_norms unused)).meets) ok
      ∙ ap (λ (v : RangeNorms). v.meets) (padded-below 16 (range_norms unused) f P.r i (omega (arith, r-within)) h)

  one_or-three : (i : ℕ) → i < P.r → (meets_at r i ≡ 1) ⊎ (meets_at r i ≡ 3)
  one_or-three i h = go (told.hold ok i h).meets
    where
      go : Meets P.bound_A (vector P xs i) (vector P xs i) (told.vectors i).meets → (meets_at r i ≡ 1) ⊎ (meets_at r i ≡ 3)
      go (every e f) = inl (told_at i h ∙ e)
      go (some_only e f n) = absurd (exact_meets J [] xs told.vectors ok (told.hold ok) i h e)
      go (none e n) = inr (told_at i h ∙ e)

  -- 13 by what is told
  abbrev told_13 : Answer
  told_13 = first P.r (λ i. cond (eqb (meets_at r i) 3) (refused 13 i) fine)

  -- a call of the prover on the witness whose coefficients are the numbers
  module _ (call : Call) (R scratch output scratch' output' : List ℕ) (p : LabradorAnswer) (proved : ProveCall call J R (exact_witness xs) scratch output scratch' output' p) where
    abbrev before : Answer
    before = prove_refusal call J R (exact_witness xs) (length scratch) (length output)

    abbrev later : Answer
    later =
        let X = public J R in
        let s = witness P (exact_witness xs) in
        t_norm X (F.t X s) then g_norm X (F.g X s) then cond call.has_h (h_norm X (F.h X s)) fine

    -- the prover's answer, with 13 by what is told
    answer_is : prove call J R (exact_witness xs) (length scratch) (length output) ≡ before then (told_13 then later)
    unfolding prove work_refusal
    answer_is =
        let X = public J R in
        let s = witness P (exact_witness xs) in
        let w = witness_norm X s in
        let t = t_norm X (F.t X s) in
        let g = g_norm X (F.g X s) in
        let h = cond call.has_h (h_norm X (F.h X s)) fine in
        ap (λ a. before then a) (ap (λ a. a then h) (then_assoc w t g) ∙ then_assoc w (t then g) h ∙ ap (λ a. a then later) by-told)
      where
        by-told : witness_norm (public J R) (witness P (exact_witness xs)) ≡ told_13
        by-told =
            exact_13 J R xs told.vectors ok (told.hold ok)
            ∙ first_ext P.r (λ i. cond (eqb (told.vectors i).meets 3) (refused 13 i) fine) (λ i. cond (eqb (meets_at r i) 3) (refused 13 i) fine)
            (λ i h. ap (λ m. cond (eqb m 3) (refused 13 i) fine) (sym (told_at i h)))

    number_is : p.number ≡ number (before then (told_13 then later))
    number_is = ap (λ (a : LabradorAnswer). a.number) proved.answer ∙ ap number answer_is

    before-by : Refuses BeforeWork before
    before-by = of_prover (λ n h. h) call J R (exact_witness xs) (length scratch) (length output)

    -- a 13 is at the lowest vector that is told to meet the bound for no choice, and those before it meet it
    pub exact_13_over_exports : p.number ≡ 13 → LowestAbove r P.r p.place
    exact_13_over_exports e =
        let X = public J R in
        let s = witness P (exact_witness xs) in
        subst (LowestAbove r P.r) (sym (ap (λ (a : LabradorAnswer). a.place) proved.answer ∙ ap place answer_is))
        (at_13 r P.r before-by (first_13 (meets_at r) P.r one_or-three)
        (of_digit_norms X (omega arith) (omega arith) (omega arith) (F.t X s) (F.g X s) (F.h X s) call.has_h) (sym number_is ∙ e))

    -- where such a vector is told and nothing is refused before the work, a 13 is given
    pub told-none_is_13 : (i : ℕ) → i < P.r → meets_at r i ≡ 3 → (0 < p.number → p.number < 13 → ⊥) → p.number ≡ 13
    told-none_is_13 i h three before-work =
        number_is
        ∙ is_13 r P.r later before-by (first_13 (meets_at r) P.r one_or-three) i h three
        (λ a b. before-work (subst (λ n. 0 < n) (sym number_is) a) (subst (λ n. n < 13) (sym number_is) b))

    -- where a transcript is made, every vector is told to meet the bound
    pub made-all_meet : p.number ≡ 0 → (i : ℕ) → i < P.r → meets_at r i ≡ 1
    made-all_meet e = none_13 r P.r later before-by (first_13 (meets_at r) P.r one_or-three) (sym number_is ∙ e)
