-- "Jobs accepted before answer as before." (document 02, Item 4): the prover's calls and the verifier with K and l from 1 on, as they were before, and that they answer the same.
use mathlib.Core.Path.{◌≡◌, refl, ap}
use mathlib.Core.Bool.{Bool, true, false, cond}
use mathlib.Core.List.{List, ◌++◌}
use Prim.Native.Nat.{ℕ, ◌≤◌}
use borrow.Author.Tests.{ltb-false}
use lib.Dec.{ltb}
use lib.ListN.{length, drop}
use Rattle.spec_leaves.specs.Zq.{top_Q}
use Rattle.spec_leaves.specs.Answer.{Answer, fine, refused, result_of, ◌then◌}
use Rattle.spec_leaves.specs.Leaf.{limited}
use Rattle.spec_protocol.specs.Parameters.{Parameters, parameters, enough_aggregations}
use Rattle.spec_protocol.specs.Layout.{span, counted, layout, ranged, first_section, job_sections, job_refusal}
use Rattle.spec_protocol.specs.Layout.{randomness_refusal, witness_refusal, transcript_refusal, scratch_refusal, output_refusal, scratch_need}
use Rattle.spec_protocol.specs.Views.{public, message, witness}
use Rattle.spec_protocol.specs.Prover.{Call, made_sections, prove_refusal, work_refusal, made, zeroed, prove, prove_output, prove_scratch}
use Rattle.spec_protocol.specs.Verifier.{checks, verify_refusal, verify, verify_scratch}
use Rattle.spec_protocol.proofs.Fine.{refused_not-fine, then_fine_left, then_fine_right, then_fine_each}
use Rattle.spec_protocol.proofs.OneKind.{first-limits, limits_as-before}

-- the job's refusals with "K, l 1 to 64": document 01's first list of limits, then that of L
unfoldable pub job_refusal-before : List ℕ → Answer
job_refusal-before J =
    let P = parameters J in
    counted 3 J 0 first_section
    then (first-limits P then limited 1 32 12 P.L)
    then enough_aggregations P
    then layout 3 J 31 (job_sections P)
    then ranged 6 J 31 (job_sections P)

-- the prover's calls by those: `prove_refusal`, `prove`, `prove_output` and `prove_scratch` with them in place of `job_refusal`
abbrev pub prove_refusal-before : Call → (J R W : List ℕ) → (scratch output : ℕ) → Answer
prove_refusal-before call J R W scratch output =
    let P = parameters J in
    job_refusal-before J
    then randomness_refusal P call.handed R
    then witness_refusal P W
    then scratch_refusal P scratch
    then output_refusal (made_sections call P) output

abbrev pub prove-before : Call → (J R W : List ℕ) → (scratch output : ℕ) → Answer
prove-before call J R W scratch output = prove_refusal-before call J R W scratch output then work_refusal (public J R) call (witness (parameters J) W)

abbrev pub prove_output-before : Call → (J R W scratch output : List ℕ) → List ℕ
prove_output-before call J R W scratch output =
    let X = public J R in
    let s = witness (parameters J) W in
    let need = span (made_sections call (parameters J)) in
    result_of (prove_refusal-before call J R W (length scratch) (length output))
    (result_of (work_refusal X call s) (made X call s ++ drop need output) (zeroed need output))
    output

abbrev pub prove_scratch-before : Call → (J R W scratch output : List ℕ) → List ℕ
prove_scratch-before call J R W scratch output =
    result_of (prove_refusal-before call J R W (length scratch) (length output)) (zeroed (scratch_need (parameters J)) scratch) scratch

-- the verifier by those
abbrev pub verify_refusal-before : (J R T : List ℕ) → (scratch : ℕ) → Answer
verify_refusal-before J R T scratch =
    let P = parameters J in
    job_refusal-before J then randomness_refusal P 7 R then transcript_refusal P T then scratch_refusal P scratch

abbrev pub verify-before : (J R T : List ℕ) → (scratch : ℕ) → Answer
verify-before J R T scratch = verify_refusal-before J R T scratch then checks (public J R) (message (parameters J) T)

abbrev pub verify_scratch-before : (J R T scratch : List ℕ) → List ℕ
verify_scratch-before J R T scratch = result_of (verify_refusal-before J R T (length scratch)) (zeroed (scratch_need (parameters J)) scratch) scratch

-- a job's refusal, and with any other slices the answers and the buffers at exit, are as before
pub record AsBefore (J : List ℕ) : Type 0 where
  pub job : job_refusal J ≡ job_refusal-before J
  pub proved : (call : Call) (R W : List ℕ) (scratch output : ℕ) → prove call J R W scratch output ≡ prove-before call J R W scratch output
  pub output : (call : Call) (R W scratch output : List ℕ) → prove_output call J R W scratch output ≡ prove_output-before call J R W scratch output
  pub scratch : (call : Call) (R W scratch output : List ℕ) → prove_scratch call J R W scratch output ≡ prove_scratch-before call J R W scratch output
  pub verdict : (R T : List ℕ) (scratch : ℕ) → verify J R T scratch ≡ verify-before J R T scratch
  pub verifier_scratch : (R T scratch : List ℕ) → verify_scratch J R T scratch ≡ verify_scratch-before J R T scratch

module _ (J : List ℕ) (same : job_refusal J ≡ job_refusal-before J) where
  prover_refusal : (call : Call) (R W : List ℕ) (scratch output : ℕ) → prove_refusal call J R W scratch output ≡ prove_refusal-before call J R W scratch output
  unfolding prove_refusal
  prover_refusal call R W scratch output =
      let P = parameters J in
      ap (λ a. a then randomness_refusal P call.handed R then witness_refusal P W then scratch_refusal P scratch then output_refusal (made_sections call P) output) same

  verifier_refusal : (R T : List ℕ) (scratch : ℕ) → verify_refusal J R T scratch ≡ verify_refusal-before J R T scratch
  unfolding verify_refusal
  verifier_refusal R T scratch =
      let P = parameters J in
      ap (λ a. a then randomness_refusal P 7 R then transcript_refusal P T then scratch_refusal P scratch) same

  -- all of a call follows its refusals
  by_refusal : AsBefore J
  unfolding prove prove_output prove_scratch verify verify_scratch
  by_refusal = record {
    job = same;
    proved = λ call R W scratch output. ap (λ a. a then work_refusal (public J R) call (witness (parameters J) W)) (prover_refusal call R W scratch output);
    output = λ call R W scratch output.
        let s = witness (parameters J) W in
        let need = span (made_sections call (parameters J)) in
        ap (λ a. result_of a (result_of (work_refusal (public J R) call s) (made (public J R) call s ++ drop need output) (zeroed need output)) output)
        (prover_refusal call R W (length scratch) (length output));
    scratch = λ call R W scratch output.
        ap (λ a. result_of a (zeroed (scratch_need (parameters J)) scratch) scratch) (prover_refusal call R W (length scratch) (length output));
    verdict = λ R T scratch. ap (λ a. a then checks (public J R) (message (parameters J) T)) (verifier_refusal R T scratch);
    verifier_scratch = λ R T scratch. ap (λ a. result_of a (zeroed (scratch_need (parameters J)) scratch) scratch) (verifier_refusal R T (length scratch));
  }

-- where both kinds of constraints are there
pub as_before : (J : List ℕ) → 1 ≤ (parameters J).K → 1 ≤ (parameters J).l → AsBefore J
unfolding job_refusal job_refusal-before
as_before J k l =
    let P = parameters J in
    by_refusal J (ap (λ a. counted 3 J 0 first_section then a then enough_aggregations P then layout 3 J 31 (job_sections P) then ranged 6 J 31 (job_sections P)) (limits_as-before P k l))

-- a parameter that the limits from 1 on do not refuse is at least 1
at_least_1 : (greatest place x : ℕ) → limited 1 greatest place x ≡ fine → 1 ≤ x
at_least_1 greatest place x e = go (ltb x 1) refl e
  where
    go : (t : Bool) → ltb x 1 ≡ t → cond t (refused 4 place) (cond (ltb greatest x) (refused 4 place) fine) ≡ fine → 1 ≤ x
    go true f e = absurd (refused_not-fine 4 place e)
    go false f e = ltb-false x 1 f

-- "Jobs accepted before": both kinds are there
pub both_kinds : (P : Parameters) → first-limits P ≡ fine → (1 ≤ P.K) × (1 ≤ P.l)
both_kinds P e =
    let five = limited 1 64 1 P.n then limited 1 16 2 P.r then limited 1 16 3 P.κ then limited 1 16 4 P.κ₁ then limited 1 16 5 P.κ₂ in
    let six = five then limited 1 64 6 P.K in
    let seven : six then limited 1 64 7 P.l ≡ fine =
    (then_fine_each (six then limited 1 64 7 P.l) (limited 16 32 8 P.log_q) (limited 2 top_Q 9 P.b) (limited 1 32 10 P.t₁) (limited 1 32 11 P.t₂) e).0
    in
    let of-K = then_fine_right five (limited 1 64 6 P.K) (then_fine_left six (limited 1 64 7 P.l) seven) in
    (at_least_1 64 6 P.K of-K, at_least_1 64 7 P.l (then_fine_right six (limited 1 64 7 P.l) seven))

-- "Jobs accepted before answer as before."
pub accepted_as-before : (J : List ℕ) → job_refusal-before J ≡ fine → AsBefore J
unfolding job_refusal-before
accepted_as-before J e =
    let P = parameters J in
    let before = first-limits P then limited 1 32 12 P.L in
    let within = (then_fine_each (counted 3 J 0 first_section) before (enough_aggregations P) (layout 3 J 31 (job_sections P)) (ranged 6 J 31 (job_sections P)) e).1 in
    let both = both_kinds P (then_fine_left (first-limits P) (limited 1 32 12 P.L) within) in
    as_before J both.0 both.1
