-- The rows that are stored are the run's, and 13 is that of its vectors, counted over the whole job.
use mathlib.Core.Path.{◌≡◌, refl, sym, ap, subst, ◌∙◌}
use mathlib.Core.List.{List, [], ◌∷◌}
use Prim.Native.Nat.{ℕ, zero, suc, ◌+◌, ◌*◌, ◌≤◌}
use native.Mathlib.Decide.{dec_le}
use native.Mathlib.Omega.{arith}
use lib.ListN.{length, set, replicate}
use Rattle.math.specs.lists.Part.{splice}
use Rattle.math.specs.lists.Table.{table}
use Rattle.spec_leaves.specs.declared.answers.Refusal.{Refusal}
use Rattle.spec_leaves.specs.Answer.{Answer, fine, accepted, refused, failed, number, place, result_of, of_refusal, ◌then◌}
use Rattle.spec_protocol.specs.Checks.{require, first}
use Rattle.spec_protocol.specs.Parameters.{Parameters, parameters}
use Rattle.spec_protocol.specs.Layout.{canonical, span, start, job_sections}
use Rattle.spec_protocol.specs.Views.{witness}
use Rattle.spec_protocol.specs.Formulas as F
use Rattle.spec_protocol.specs.Formulas.{norm_of}
use Rattle.spec_protocol.specs.Prover.{zeroed}
use Rattle.spec_protocol.proofs.Sections.{one_span}
use Rattle.spec_protocol.proofs.Checks.{first_ext}
use Rattle.ring_rq_matrix.specs.Region.{vector}
use Rattle.commitments_outer.specs.Cells.{commitments_of, vector_norm}
use Rattle.relation_env_params.specs.declared.env_params.EnvironmentParameters.{EnvironmentParameters}
use Rattle.relation_env_params.specs.Parameters.{parameters_of}
use Rattle.admission_slices.proofs.Fit.{refusal_none}
use Rattle.api_answers.specs.declared.verdicts.LabradorAnswer.{LabradorAnswer}
use Rattle.api_answers.specs.Calls.{labrador_answer}
use Rattle.spec_sheds.specs.Runs.{Run, size, rows_section, stored, run_rows, run_norm, rows_made}
use Rattle.spec_sheds.proofs.Stored.{section_put, zeros_put}
use Rattle.spec_sheds.proofs.Calls.{length-run_rows}
use Rattle.shed_admission.specs.Admitted.{RunGiven}
use Rattle.shed_admission.proofs.Order.{run-sized, few}

-- an answer whose place is counted from further back
moved : ℕ → Answer → Answer
moved k a = result_of a a (refused (number a) (k + place a))

-- of the first of two answers that is not fine
moved_then : (k : ℕ) (a b : Answer) → moved k (a then b) ≡ moved k a then moved k b
unfolding moved
moved_then k fine b = refl
moved_then k (accepted c) b = refl
moved_then k (refused n params) b = refl
moved_then k (failed n vs) b = refl

moved-first : (k n : ℕ) (f : ℕ → Answer) → moved k (first n f) ≡ first n (λ i. moved k (f i))
unfolding first
moved-first k zero f = unfold moved in refl
moved-first k (suc n) f = moved_then k (first n f) (f n) ∙ ap (λ a. a then moved k (f n)) (moved-first k n f)

-- of a test
moved_test : (k i : ℕ) {A : Type 0} (d : Dec A) → moved k (require d (refused 13 i)) ≡ require d (refused 13 (k + i))
unfolding moved
moved_test k i (yes a) = refl
moved_test k i (no n) = refl

-- the place of the first refusal of n is below n, or 0
place_then : (a b : Answer) (n : ℕ) → place a ≤ n → place b ≤ n → place (a then b) ≤ n
place_then fine b n h k = k
place_then (accepted c) b n h k = h
place_then (refused m params) b n h k = h
place_then (failed m vs) b n h k = h

place_test : (i n : ℕ) {A : Type 0} (d : Dec A) → i ≤ n → place (require d (refused 13 i)) ≤ n
place_test i n (yes a) h = omega arith
place_test i n (no a) h = h

first-place : (S : List ℕ) (at n bound count m : ℕ) → count ≤ m → place (first count (vector_norm S at n bound)) ≤ m
unfolding first
first-place S at n bound zero m h = omega arith
first-place S at n bound (suc c) m h =
    place_then (first c (vector_norm S at n bound)) (vector_norm S at n bound c) m (first-place S at n bound c m (omega arith))
    (place_test c m (dec_le (norm_of (table n (vector S at n c))) bound) (omega arith))

module _ (J : List ℕ) (x : Run) (S O : List ℕ) (params : EnvironmentParameters) (h : RunGiven J x S (rows_section (parameters J) x) (length O) params) where
  same : parameters_of params ≡ parameters J
  same = h.in_job.same

  -- the words that the rows take
  rows_words : ℕ
  rows_words = 64 * (size x * params.kappa)

  κ_is : params.kappa ≡ (parameters J).κ
  κ_is = ap (λ Q. Q.κ) same

  pub need_is : 1 + 64 * (size x * params.kappa) ≡ span (rows_section (parameters J) x)
  need_is = ap (λ k. 1 + 64 * (size x * k)) κ_is ∙ one_span (64 * (size x * (parameters J).κ))

  pub rows-room : 1 + 64 * (size x * params.kappa) ≤ length O
  rows-room = subst (λ n. n ≤ length O) (sym need_is) h.output_fits

  -- 13: what `check_witness` needs
  pub vectors-room : 1 + 64 * (size x * params.rank) ≤ length S
  vectors-room = subst (λ n. 1 + 64 * (size x * n) ≤ length S) (sym (ap (λ Q. Q.n) same)) (within (size x * (parameters J).n) (length S) h.vectors.whole)
    where
      within : (k l : ℕ) → l ≡ 0 + span (canonical (64 * k) ∷ []) → 1 + 64 * k ≤ l
      within k l e = unfold span in omega arith

  -- what `commit_all` needs
  pub commit_room : (at : ℕ) → at ≡ 31 + start (job_sections (parameters_of params)) 6
      → (at + 64 * (params.kappa * params.rank) ≤ length J) × (1 + 64 * (size x * params.rank) ≤ length S) × (1 + 64 * (size x * params.kappa) ≤ length O)
      × (params.rank ≤ 64) × (params.kappa ≤ 64)
  commit_room at e = (
    subst (λ a. a + 64 * (params.kappa * params.rank) ≤ length J) (sym e)
        (subst (λ Q. 31 + start (job_sections Q) 6 + 64 * (Q.κ * Q.n) ≤ length J) (sym same) (h.in_job.job.inside 6 (omega arith))),
    vectors-room,
    rows-room,
    (run-sized h.in_job).within.n.1,
    omega (arith, (run-sized h.in_job).within.κ.1),
  )

  -- what it stores is the run's rows
  pub rows_are : (at : ℕ) → at ≡ 31 + start (job_sections (parameters_of params)) 6 → commitments_of J at params.kappa params.rank S 1 (size x) ≡ run_rows J x S
  unfolding run_rows F.t start
  rows_are at e =
      ap (λ a. commitments_of J a params.kappa params.rank S 1 (size x)) e
      ∙ ap (λ Q. commitments_of J (31 + start (job_sections Q) 6) Q.κ Q.n S 1 (size x)) same

  rows-size : length (run_rows J x S) ≡ rows_words
  unfolding rows_words
  rows-size = length-run_rows J x S ∙ ap (λ k. 64 * (size x * k)) (sym κ_is)

  pub rows-stored : (at : ℕ) → at ≡ 31 + start (job_sections (parameters_of params)) 6 → (O' : List ℕ)
      → O' ≡ splice (set O 0 (64 * (size x * params.kappa))) 1 (commitments_of J at params.kappa params.rank S 1 (size x)) → O' ≡ stored (rows_section (parameters J) x) (run_rows J x S) O
  unfolding rows_words
  rows-stored at e O' f =
      section_put (rows_section (parameters J) x) O O' (64 * (size x * params.kappa)) (run_rows J x S) rows-size (sym need_is) rows-room
      (f ∙ ap (splice (set O 0 (64 * (size x * params.kappa))) 1) (rows_are at e))

  -- the tests of the run's own vectors
  abbrev tests : Answer
  tests = first (size x) (vector_norm S 1 params.rank params.bound_a)

  norm_is : run_norm J x S ≡ moved x.first tests
  unfolding run_norm start
  norm_is =
      let P = parameters J in
      sym
      (ap (λ (Q : Parameters). moved x.first (first (size x) (vector_norm S 1 Q.n Q.bound_A))) same
      ∙ moved-first x.first (size x) (vector_norm S 1 P.n P.bound_A)
      ∙ first_ext (size x) (λ i. moved x.first (vector_norm S 1 P.n P.bound_A i)) (λ i. require (dec_le (norm_of (table P.n (witness P S i))) P.bound_A) (refused 13 (x.first + i)))
      (λ i l. moved_test x.first i (dec_le (norm_of (table P.n (witness P S i))) P.bound_A)))

  -- where no vector's norm is above the bound
  module _ (e : fine ≡ tests) where
    pub made-answer : (r : LabradorAnswer) → r.number ≡ 0 → r.place ≡ 0 → r ≡ labrador_answer (run_norm J x S)
    unfolding moved
    made-answer r a b = (λ i. record { number = a i; place = b i }) ∙ ap (λ a. labrador_answer (moved x.first a)) e ∙ ap labrador_answer (sym norm_is)

    pub made-output : (O' : List ℕ) → O' ≡ stored (rows_section (parameters J) x) (run_rows J x S) O → O' ≡ rows_made J x S O
    unfolding rows_made moved
    made-output O' f =
        let made = rows_section (parameters J) x in
        f
        ∙ ap (λ a. result_of (moved x.first a) (stored made (run_rows J x S) O) (zeroed (span made) O)) e
        ∙ ap (λ a. result_of a (stored made (run_rows J x S) O) (zeroed (span made) O)) (sym norm_is)

  -- where one is
  module _ (r : Refusal) (e : of_refusal r ≡ tests) where
    pub few-places : place (of_refusal r) ≤ 16
    few-places = subst (λ a. place a ≤ 16) (sym e) (first-place S 1 params.rank params.bound_a (size x) 16 (few h.in_job))

    pub norm-refused : run_norm J x S ≡ refused (number (of_refusal r)) (x.first + place (of_refusal r))
    unfolding moved
    norm-refused = norm_is ∙ ap (moved x.first) (sym e) ∙ sym (refusal_none r (of_refusal r) (refused (number (of_refusal r)) (x.first + place (of_refusal r))))

    pub refused-output : (O' : List ℕ) → O' ≡ splice O 0 (replicate (1 + 64 * (size x * params.kappa)) 0) → O' ≡ rows_made J x S O
    unfolding rows_made
    refused-output O' f =
        let made = rows_section (parameters J) x in
        zeros_put (1 + 64 * (size x * params.kappa)) O O' rows-room f
        ∙ ap (λ n. zeroed n O) need_is
        ∙ ap (λ a. result_of a (stored made (run_rows J x S) O) (zeroed (span made) O)) (sym norm-refused)
