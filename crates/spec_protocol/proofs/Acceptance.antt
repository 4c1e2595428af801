-- What an acceptance says: nothing is refused before the work, each check passes, and the acceptance has its number (document 02, Item 5). A refusal and a check are no acceptance.
use mathlib.Core.Path.{◌≡◌, refl, sym, ap₂}
use mathlib.Core.Bool.{Bool, true, false, cond}
use mathlib.Core.List.{List, []}
use Prim.Native.Nat.{ℕ, zero, suc, ◌*◌, ◌≤◌, ◌<◌}
use native.Mathlib.Decide.{dec_le, ℕ_discrete}
use native.Mathlib.Omega.{arith}
use lib.Dec.{ltb}
use borrow.Author.Tests.{ltb-false}
use Rattle.math.specs.lists.Table.{table}
use Rattle.spec_leaves.specs.Zq.{top_Q}
use Rattle.spec_leaves.specs.Norm.{norm}
use Rattle.spec_leaves.specs.Answer.{Answer, fine, accepted, refused, failed, number, ◌then◌}
use Rattle.spec_leaves.specs.Leaf.{limited}
use Rattle.spec_leaves.specs.Rq.{coeff}
use Rattle.spec_leaves.specs.Ring.{words}
use Rattle.spec_protocol.specs.Checks.{require, first}
use Rattle.spec_protocol.specs.Parameters.{parameters, some_constraint, limits, enough_aggregations}
use Rattle.spec_protocol.specs.Layout.{counted, ranged, layout, first_section, job_sections, job_refusal, randomness_refusal, transcript_refusal, scratch_refusal}
use Rattle.spec_protocol.specs.Views.{Public, Message, public, message}
use Rattle.spec_protocol.specs.Formulas.{◌⊕◌, ◌⊗◌, sum, dot, pairs, norm_of, t_digits, g_digits, h_digits, a_sum, φ_sum, b_sum, cells_left_of, u₁_of, u₂_of}
use Rattle.spec_protocol.specs.Prover.{t_norm, g_norm, h_norm}
use Rattle.spec_protocol.specs.Verifier.{same, twice, check_21, check_22, check_23, check_24, check_25, check_26, check_27, check_28, check_29, checks, verify, verify_refusal}
use Rattle.spec_protocol.specs.Many.{many_need, many_refusal}
use Rattle.spec_protocol.proofs.Refuses.{Refuses, well, by, ◌and◌, test, of_job, of_verifier}
use Rattle.spec_protocol.proofs.Fine.{accepted_not-fine, accepted-same, refused_not-fine, refused_not-accepted, failed_not-fine, failed_not-accepted}
use Rattle.spec_protocol.proofs.Fine.{then_fine_left, then_fine_right, then_fine_each}

-- no acceptance
abbrev pub Unaccepted : Answer → Type 0
Unaccepted a = (cells : ℕ) → a ≡ accepted cells → ⊥

-- no acceptance, and fine where the number is 0
pub record Told (a : Answer) : Type 0 where
  pub unaccepted : Unaccepted a
  pub numbered : number a ≡ 0 → a ≡ fine

fine_no : Told fine
fine_no = record { unaccepted = λ cells e. accepted_not-fine cells (sym e); numbered = λ e. refl }

refused_no : (number place : ℕ) → 0 < number → Told (refused number place)
refused_no number place h = record { unaccepted = refused_not-accepted number place; numbered = λ e. absurd (omega arith) }

failed_no : (number : ℕ) (values : List ℕ) → 0 < number → Told (failed number values)
failed_no number values h = record { unaccepted = failed_not-accepted number values; numbered = λ e. absurd (omega arith) }

-- of two such answers with the number 0 together the first is fine
pub told-fine : (a b : Answer) → Told a → number (a then b) ≡ 0 → (a ≡ fine) × (number b ≡ 0)
told-fine fine b x e = (refl, e)
told-fine (accepted c) b x e = absurd (x.unaccepted c refl)
told-fine (refused n p) b x e = absurd (refused_not-fine n p (x.numbered e))
told-fine (failed n vs) b x e = absurd (failed_not-fine n vs (x.numbered e))

-- of two such answers the first that is not fine is one
then_no : (a b : Answer) → Told a → Told b → Told (a then b)
then_no fine b x y = y
then_no (accepted c) b x y = absurd (x.unaccepted c refl)
then_no (refused n p) b x y = x
then_no (failed n vs) b x y = x

-- a test
require_no {ℓ} : {A : Type ℓ} (d : Dec A) (answer : Answer) → Told answer → Told (require d answer)
require_no (yes a) answer x = fine_no
require_no (no n) answer x = x

first_no : (n : ℕ) (f : ℕ → Answer) → ((k : ℕ) → Told (f k)) → Told (first n f)
unfolding first
first_no zero f x = fine_no
first_no (suc n) f x = then_no (first n f) (f n) (first_no n f x) (x n)

-- an acceptance after what is none: that was fine
after : (a b : Answer) (cells : ℕ) → Unaccepted a → a then b ≡ accepted cells → (a ≡ fine) × (b ≡ accepted cells)
after fine b cells x e = (refl, e)
after (accepted c) b cells x e = absurd (x c refl)
after (refused n p) b cells x e = absurd (refused_not-accepted n p cells e)
after (failed n vs) b cells x e = absurd (failed_not-accepted n vs cells e)

-- and where the last answer is the acceptance, it has the number
pub after_unaccepted : (a : Answer) (last cells : ℕ) → Unaccepted a → a then accepted last ≡ accepted cells → (a ≡ fine) × (last ≡ cells)
after_unaccepted a last cells x e = let both = after a (accepted last) cells x e in (both.0, accepted-same last cells both.1)

-- a refusal by a number that is not 0
told_of : {a : Answer} → Refuses (λ n. 0 < n) a → Told a
told_of well = fine_no
told_of (by n p h) = refused_no n p h

refusal_no : (J R X : List ℕ) (lent : ℕ) → Told (verify_refusal J R X lent)
refusal_no J R X lent = told_of (of_verifier (λ n h. h.0) J R X lent)

-- the refusals of a whole call on many transcripts
pub many_no : (J : List ℕ) (count lent : ℕ) → Told (many_refusal J count lent)
unfolding many_refusal
many_no J count lent =
    let need = many_need (parameters J) count in
    told_of (test (dec_le 1 count) 35 0 (omega arith) and test (dec_le count 8) 35 0 (omega arith) and (of_job (λ n h. h.0) J and test (dec_le need lent) 1 need (omega arith)))

module _ (X : Public) (M : Message) where
  open X use {P, A, c}
  open P use {n, r, κ, κ₁, κ₂, L, beta_sq, beta_prime_sq}

  no_21 : Told (check_21 X M)
  unfolding check_21
  no_21 = require_no (dec_le (norm (table 256 M.p)) (128 * beta_sq)) _ (failed_no 21 _ (omega arith))

  no_22 : Told (check_22 X M)
  unfolding check_22
  no_22 = first_no L _ (λ k. require_no (ℕ_discrete (coeff (words (M.b'' k)) 0) _) _ (failed_no 22 _ (omega arith)))

  no_23 : Told (check_23 X M)
  unfolding check_23
  no_23 = require_no (dec_le _ beta_prime_sq) _ (failed_no 23 _ (omega arith))

  no_24 : Told (check_24 X M)
  unfolding check_24
  no_24 = first_no κ _ (λ k. require_no (same (dot n (A k) M.z) (sum r (λ i. M.t i k ⊗ c i))) _ (failed_no 24 [] (omega arith)))

  no_25 : Told (check_25 X M)
  unfolding check_25
  no_25 = require_no (same (dot n M.z M.z) (pairs r (λ i j. M.g i j ⊗ c i ⊗ c j))) _ (failed_no 25 [] (omega arith))

  no_26 : Told (check_26 X M)
  unfolding check_26
  no_26 = require_no (same (twice (sum r (λ i. dot n (φ_sum X i) M.z ⊗ c i))) (pairs r (λ i j. M.h i j ⊗ c i ⊗ c j))) _ (failed_no 26 [] (omega arith))

  no_27 : Told (check_27 X M)
  unfolding check_27
  no_27 = require_no (same (twice (pairs r (λ i j. a_sum X i j ⊗ M.g i j)) ⊕ sum r (λ i. M.h i i)) (twice (b_sum X M.b''))) _ (failed_no 27 [] (omega arith))

  no_28 : Told (check_28 X M)
  unfolding check_28
  no_28 = first_no κ₁ _ (λ k. require_no (same (M.u₁ k) (u₁_of X M.t M.g k)) _ (failed_no 28 [] (omega arith)))

  no_29 : Told (check_29 X M)
  unfolding check_29
  no_29 = first_no κ₂ _ (λ k. require_no (same (M.u₂ k) (u₂_of X M.h k)) _ (failed_no 29 [] (omega arith)))

  no_14 : Told (t_norm X M.t)
  unfolding t_norm
  no_14 = require_no (dec_le (norm_of (t_digits X M.t)) P.bound_B) _ (refused_no 14 0 (omega arith))

  no_15 : Told (g_norm X M.g)
  unfolding g_norm
  no_15 = require_no (dec_le (norm_of (g_digits X M.g)) P.bound_C) _ (refused_no 15 0 (omega arith))

  no_16 : Told (h_norm X M.h)
  unfolding h_norm
  no_16 = require_no (dec_le (norm_of (h_digits X M.h)) P.bound_D) _ (refused_no 16 0 (omega arith))

  -- 21 to 23
  told-norms : Told (check_21 X M then check_22 X M then check_23 X M)
  told-norms = then_no (check_21 X M then check_22 X M) (check_23 X M) (then_no (check_21 X M) (check_22 X M) no_21 no_22) no_23

  -- all checks, in order
  abbrev pub up_to_27 : Answer
  up_to_27 = check_21 X M then check_22 X M then check_23 X M then check_24 X M then check_25 X M then check_26 X M then check_27 X M

  abbrev pub up_to_29 : Answer
  up_to_29 = up_to_27 then t_norm X M.t then g_norm X M.g then check_28 X M then h_norm X M.h then check_29 X M

  no_up_to_27 : Told up_to_27
  no_up_to_27 =
      let a = check_21 X M then check_22 X M then check_23 X M in
      let b = a then check_24 X M in
      let d = b then check_25 X M in
      let e = d then check_26 X M in
      then_no e (check_27 X M) (then_no d (check_26 X M) (then_no b (check_25 X M) (then_no a (check_24 X M) told-norms no_24) no_25) no_26) no_27

  no_up_to_29 : Told up_to_29
  no_up_to_29 =
      let a = up_to_27 then t_norm X M.t in
      let b = a then g_norm X M.g in
      let d = b then check_28 X M in
      let e = d then h_norm X M.h in
      then_no e (check_29 X M) (then_no d (h_norm X M.h) (then_no b (check_28 X M) (then_no a (g_norm X M.g) (then_no up_to_27 (t_norm X M.t) no_up_to_27 no_14) no_15) no_28) no_16) no_29

  -- where the checks accept, each passes, and the number is that of the cells that are sent
  pub accepted-checks : (cells : ℕ) → checks X M ≡ accepted cells → (up_to_29 ≡ fine) × (cells_left_of X M.t M.g M.h ≡ cells)
  unfolding checks
  accepted-checks cells e = after_unaccepted up_to_29 _ cells no_up_to_29.unaccepted e

  -- what holds where the checks accept: 22 to 29 pass, and the number
  pub record Passed (cells : ℕ) : Type 0 where
    pub constant_terms : check_22 X M ≡ fine
    pub norm_sum : check_23 X M ≡ fine
    pub t-relation : check_24 X M ≡ fine
    pub g-relation : check_25 X M ≡ fine
    pub h-relation : check_26 X M ≡ fine
    pub aggregated : check_27 X M ≡ fine
    pub first_commitment : check_28 X M ≡ fine
    pub second_commitment : check_29 X M ≡ fine
    pub number : cells_left_of X M.t M.g M.h ≡ cells

  passed : (cells : ℕ) → checks X M ≡ accepted cells → Passed cells
  passed cells e =
      let found = accepted-checks cells e in
      let to-15 = up_to_27 then t_norm X M.t then g_norm X M.g in
      let to-16 : to-15 then check_28 X M then h_norm X M.h ≡ fine = then_fine_left (to-15 then check_28 X M then h_norm X M.h) (check_29 X M) found.0 in
      let to-28 : to-15 then check_28 X M ≡ fine = then_fine_left (to-15 then check_28 X M) (h_norm X M.h) to-16 in
      let to-14 : up_to_27 then t_norm X M.t ≡ fine = then_fine_left (up_to_27 then t_norm X M.t) (g_norm X M.g) (then_fine_left to-15 (check_28 X M) to-28) in
      let up-to-23 = check_21 X M then check_22 X M then check_23 X M in
      let relations = then_fine_each up-to-23 (check_24 X M) (check_25 X M) (check_26 X M) (check_27 X M) (then_fine_left up_to_27 (t_norm X M.t) to-14) in
      record {
        constant_terms = then_fine_right (check_21 X M) (check_22 X M) (then_fine_left (check_21 X M then check_22 X M) (check_23 X M) relations.0);
        norm_sum = then_fine_right (check_21 X M then check_22 X M) (check_23 X M) relations.0;
        t-relation = relations.1;
        g-relation = relations.2;
        h-relation = relations.3;
        aggregated = relations.4;
        first_commitment = then_fine_right to-15 (check_28 X M) to-28;
        second_commitment = then_fine_right (to-15 then check_28 X M then h_norm X M.h) (check_29 X M) found.0;
        number = found.1;
      }

-- an accepted transcript passes those checks
pub accepted-passes : (J R X : List ℕ) (lent cells : ℕ) → verify J R X lent ≡ accepted cells → Passed (public J R) (message (parameters J) X) cells
unfolding verify
accepted-passes J R X lent cells e =
    passed (public J R) (message (parameters J) X) cells (after (verify_refusal J R X lent) (checks (public J R) (message (parameters J) X)) cells (refusal_no J R X lent).unaccepted e).1

-- a verdict with the number 0 is an acceptance
pub zero_accepts : (J R X : List ℕ) (lent : ℕ) → number (verify J R X lent) ≡ 0 → (cells : ℕ) × (verify J R X lent ≡ accepted cells)
unfolding verify checks
zero_accepts J R X lent e =
    let Y = public J R in
    let M = message (parameters J) X in
    let cells = cells_left_of Y M.t M.g M.h in
    let one = told-fine (verify_refusal J R X lent) (checks Y M) (refusal_no J R X lent) e in
    let two = told-fine (up_to_29 Y M) (accepted cells) (no_up_to_29 Y M) one.1 in
    (cells, ap₂ (λ a b. a then (b then accepted cells)) one.0 two.0)

-- where it is accepted, nothing is refused before the work
accepted_unrefused : (J R X : List ℕ) (lent cells : ℕ) → verify J R X lent ≡ accepted cells → verify_refusal J R X lent ≡ fine
unfolding verify
accepted_unrefused J R X lent cells e = (after (verify_refusal J R X lent) (checks (public J R) (message (parameters J) X)) cells (refusal_no J R X lent).unaccepted e).0

-- nor of the job, the randomness and the transcript
accepted_slices : (J R X : List ℕ) (lent cells : ℕ) → verify J R X lent ≡ accepted cells → job_refusal J then randomness_refusal (parameters J) 7 R then transcript_refusal (parameters J) X ≡ fine
unfolding verify_refusal
accepted_slices J R X lent cells e =
    let P = parameters J in
    then_fine_left (job_refusal J then randomness_refusal P 7 R then transcript_refusal P X) (scratch_refusal P lent) (accepted_unrefused J R X lent cells e)

accepted-job : (J R X : List ℕ) (lent cells : ℕ) → verify J R X lent ≡ accepted cells → job_refusal J ≡ fine
accepted-job J R X lent cells e =
    let P = parameters J in
    then_fine_left (job_refusal J) (randomness_refusal P 7 R) (then_fine_left (job_refusal J then randomness_refusal P 7 R) (transcript_refusal P X) (accepted_slices J R X lent cells e))

pub accepted-transcript : (J R X : List ℕ) (lent cells : ℕ) → verify J R X lent ≡ accepted cells → transcript_refusal (parameters J) X ≡ fine
accepted-transcript J R X lent cells e =
    let P = parameters J in
    then_fine_right (job_refusal J then randomness_refusal P 7 R) (transcript_refusal P X) (accepted_slices J R X lent cells e)

-- a number that is not refused is at least its least value
at_least : (least greatest place x : ℕ) → limited least greatest place x ≡ fine → least ≤ x
at_least least greatest place x e = go (ltb x least) refl e
  where
    go : (t : Bool) → ltb x least ≡ t → cond t (refused 4 place) (cond (ltb greatest x) (refused 4 place) fine) ≡ fine → least ≤ x
    go true f e = absurd (refused_not-fine 4 place e)
    go false f e = ltb-false x least f

-- so its base is at least 2
pub base_at-least : (J R X : List ℕ) (lent cells : ℕ) → verify J R X lent ≡ accepted cells → 2 ≤ (parameters J).b
unfolding job_refusal limits
base_at-least J R X lent cells e =
    let P = parameters J in
    let before =
    limited 1 64 1 P.n
    then limited 1 16 2 P.r
    then limited 1 16 3 P.κ
    then limited 1 16 4 P.κ₁
    then limited 1 16 5 P.κ₂
    then limited 0 64 6 P.K
    then limited 0 64 7 P.l
    then some_constraint P
    then limited 16 32 8 P.log_q
    in
    let base = before then limited 2 top_Q 9 P.b in
    let within = (then_fine_each (counted 3 J 0 first_section) (limits P) (enough_aggregations P) (layout 3 J 31 (job_sections P)) (ranged 6 J 31 (job_sections P))
    (accepted-job J R X lent cells e)).1 in
    at_least 2 top_Q 9 P.b
    (then_fine_right before (limited 2 top_Q 9 P.b)
    (then_fine_left base (limited 1 32 10 P.t₁)
    (then_fine_left (base then limited 1 32 10 P.t₁) (limited 1 32 11 P.t₂) (then_fine_left (base then limited 1 32 10 P.t₁ then limited 1 32 11 P.t₂) (limited 1 32 12 P.L) within))))
