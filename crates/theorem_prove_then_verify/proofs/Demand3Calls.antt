-- Demand 3 over the two calls, from what their contracts ensure alone.
use mathlib.Core.Path.{◌≡◌, sym, ap, subst, ◌∙◌}
use mathlib.Core.List.{List, ◌++◌}
use Prim.Native.Nat.{ℕ, ◌≤◌}
use native.Mathlib.Decide.{dec_le}
use lib.ListN.{length, take, drop, replicate, length-replicate}
use lib.Seq.{drop_at}
use Rattle.spec_leaves.specs.declared.answers.Refusal.{Refusal}
use Rattle.std.specs.Prelude.{Result, Ok, Err}
use Rattle.spec_leaves.specs.declared.answers.Verdict.{Verdict}
use Rattle.spec_leaves.specs.Answer.{fine, refused, result_of, ◌then◌, of_refusal, of_result, of_verdict}
use Rattle.spec_protocol.specs.Parameters.{parameters}
use Rattle.spec_protocol.specs.Layout.{span, transcript_sections, job_refusal, scratch_need}
use Rattle.spec_protocol.specs.Views.{public, witness}
use Rattle.spec_protocol.specs.Prover.{whole, zeroed, prove, prove_output, prove_scratch}
use Rattle.spec_protocol.specs.Verifier.{verify, verify_refusal, verify_scratch}
use Rattle.spec_protocol.specs.Conditions.{conditions, Demand3}
use Rattle.spec_protocol.proofs.Fine.{require-holds, then_both_fine}
use Rattle.spec_protocol.proofs.Accepted.{Admitted, admitted, before-work, output-made, made-whole, transcript-fine}
use Rattle.spec_protocol.proofs.Total.{output_unchanged, scratch_unchanged}
use Rattle.spec_protocol.proofs.Demand3.{demand_3}
use Rattle.spec_protocol.proofs.Stated.{stated}
use Rattle.admission_slices.proofs.Stages.{stops_at}

-- the part of the output that is handed to the verifier
abbrev pub sent : List ℕ → List ℕ → List ℕ
sent J output = take (span (transcript_sections (parameters J))) output

-- a buffer zeroed twice
zeroed-twice : (need : ℕ) (buffer : List ℕ) → zeroed need (zeroed need buffer) ≡ zeroed need buffer
zeroed-twice need buffer = ap (λ rest. replicate need 0 ++ rest) (drop_at (replicate need 0) (drop need buffer) need (length-replicate need 0))

module _ (J R W scratch output : List ℕ) where
  -- what the prover's contract ensures of its answer and its output
  module _ (p : Result (Unit {0}) Refusal) (exit : List ℕ) (answered : of_result p ≡ prove whole J R W (length scratch) (length output)) (left : exit ≡ prove_output whole J R W scratch output) where
    -- a refusal is the answer, whatever the conditions are
    pub prover_refuses : (r : Refusal) → p ≡ Err r → of_refusal r ≡ prove whole J R W (length scratch) (length output) then conditions (public J R) (witness (parameters J) W)
    prover_refuses r is = stops_at r (conditions (public J R) (witness (parameters J) W)) (sym (ap of_result is) ∙ answered)

    -- where a transcript was made
    module _ (is : p ≡ Ok tt) where
      pub proved : fine ≡ prove whole J R W (length scratch) (length output)
      proved = sym (ap of_result is) ∙ answered

      -- what holds of a call that is refused nothing
      call : Admitted whole J R W (length scratch) (length output)
      call = admitted whole J R W (length scratch) (length output) (before-work whole J R W scratch output (sym proved))

      -- the verdict that the verifier's contract ensures is that of the four conditions
      pub demand_3_over_calls : (v : Verdict) (lent : ℕ) → scratch_need (parameters J) ≤ lent → of_verdict v ≡ verify J R (sent J exit) lent
          → of_verdict v ≡ conditions (public J R) (witness (parameters J) W)
      demand_3_over_calls v lent enough judged = judged ∙ ap (λ o. verify J R (sent J o) lent) left ∙ demand_3 J R W scratch output lent (sym proved) enough

      -- and so it is as demand 3 says: accepted exactly when the four hold, never refused, else the first that fails; by norm only where all constraints are met
      pub stated_over_calls : (v : Verdict) (lent : ℕ) → scratch_need (parameters J) ≤ lent → of_verdict v ≡ verify J R (sent J exit) lent
          → Demand3 (public J R) (witness (parameters J) W) (of_verdict v)
      stated_over_calls v lent enough judged = stated (demand_3_over_calls v lent enough judged)

      -- as one answer of both calls
      pub verdict_of-both : (v : Verdict) (lent : ℕ) → scratch_need (parameters J) ≤ lent → of_verdict v ≡ verify J R (sent J exit) lent
          → of_verdict v ≡ prove whole J R W (length scratch) (length output) then conditions (public J R) (witness (parameters J) W)
      verdict_of-both v lent enough judged =
          demand_3_over_calls v lent enough judged ∙ ap (λ a. a then conditions (public J R) (witness (parameters J) W)) proved

      -- the verifier refuses nothing before its work
      nothing_refused : (lent : ℕ) → scratch_need (parameters J) ≤ lent → verify_refusal J R (sent J exit) lent ≡ fine
      unfolding verify_refusal
      nothing_refused lent enough =
          let X = public J R in
          let s = witness (parameters J) W in
          ap (λ T. verify_refusal J R T lent) (ap (sent J) left ∙ output-made whole J R W scratch output (sym proved) ∙ made-whole X s)
          ∙ then_both_fine (then_both_fine (then_both_fine call.job call.randomness) (transcript-fine X s))
          (require-holds (dec_le (scratch_need (parameters J)) lent) (refused 1 (scratch_need (parameters J))) enough)

      -- and leaves the scratch as the prover does
      pub scratch_of-both : (middle last : List ℕ) → middle ≡ prove_scratch whole J R W scratch output → scratch_need (parameters J) ≤ length middle → last ≡ verify_scratch J R (sent J exit) middle
          → last ≡ prove_scratch whole J R W scratch output
      unfolding prove_scratch verify_scratch
      scratch_of-both middle last m enough l =
          let need = scratch_need (parameters J) in
          let made = ap (λ a. result_of a (zeroed need scratch) scratch) (before-work whole J R W scratch output (sym proved)) in
          l
          ∙ ap (λ a. result_of a (zeroed need middle) middle) (nothing_refused (length middle) enough)
          ∙ ap (zeroed need) (m ∙ made)
          ∙ zeroed-twice need scratch
          ∙ sym made

      -- the scratch is long enough for both
      enough-left : (middle : List ℕ) → middle ≡ prove_scratch whole J R W scratch output → scratch_need (parameters J) ≤ length middle
      enough-left middle m = subst (λ n. scratch_need (parameters J) ≤ n) (sym (ap length m ∙ (scratch_unchanged whole J R W scratch output).size)) call.scratch_fits

      -- the length that is read of the output is the transcript's, and the output has it
      length-sent : (n : ℕ) → n ≡ result_of (job_refusal J) (span (transcript_sections (parameters J))) 0 → n ≡ span (transcript_sections (parameters J))
      length-sent n e = e ∙ ap (λ a. result_of a (span (transcript_sections (parameters J))) 0) call.job

      pub sent-within : (n : ℕ) → n ≡ result_of (job_refusal J) (span (transcript_sections (parameters J))) 0 → n ≤ length exit
      sent-within n e =
          subst (λ k. k ≤ length exit) (sym (length-sent n e))
          (subst (λ k. span (transcript_sections (parameters J)) ≤ k) (sym (ap length left ∙ (output_unchanged whole J R W scratch output).size)) call.output_fits)

      -- answer, output and scratch of both calls, one after the other
      pub both_calls : (v : Verdict) (n : ℕ) (middle last : List ℕ) → middle ≡ prove_scratch whole J R W scratch output
          → n ≡ result_of (job_refusal J) (span (transcript_sections (parameters J))) 0
          → of_verdict v ≡ verify J R (take n exit) (length middle)
          → last ≡ verify_scratch J R (take n exit) middle
          → (of_verdict v ≡ prove whole J R W (length scratch) (length output) then conditions (public J R) (witness (parameters J) W))
          × ((exit ≡ prove_output whole J R W scratch output) × (last ≡ prove_scratch whole J R W scratch output))
      both_calls v n middle last m e judged l =
          let enough = enough-left middle m in
          let size = length-sent n e in (
            verdict_of-both v (length middle) enough (judged ∙ ap (λ k. verify J R (take k exit) (length middle)) size),
            (left, scratch_of-both middle last m enough (l ∙ ap (λ k. verify_scratch J R (take k exit) middle) size)),
          )
