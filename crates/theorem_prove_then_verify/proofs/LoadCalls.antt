-- A test load, then the prover, then the verifier, from what the three calls' contracts ensure alone: a transcript is made, and it is accepted.
use mathlib.Core.Path.{◌≡◌, sym, ap, ◌∙◌}
use mathlib.Core.List.{List}
use Prim.Native.Nat.{ℕ, ◌≤◌, ◌<◌, ◌^◌}
use lib.ListN.{length, take, drop}
use lib.Seq.{take_at}
use Rattle.std.specs.Prelude.{Result, Ok, Err}
use Rattle.spec_leaves.specs.declared.answers.Refusal.{Refusal}
use Rattle.spec_leaves.specs.declared.answers.Verdict.{Verdict}
use Rattle.spec_leaves.specs.Answer.{fine, accepted, of_result, of_verdict}
use Rattle.spec_protocol.specs.Layout.{span, transcript_sections, scratch_need}
use Rattle.spec_protocol.specs.Prover.{whole, prove, prove_output}
use Rattle.spec_protocol.specs.Views.{public}
use Rattle.spec_protocol.specs.Verifier.{verify}
use Rattle.spec_protocol.specs.Conditions.{cells_left}
use Rattle.spec_protocol.specs.Load.{Given, load_parameters, needs_refusal, load_refusal, load_job, load_witness, load_randomness, load_vectors, loaded, job_need, witness_need, randomness_need}
use Rattle.spec_protocol.proofs.Fine.{then_fine_left}
use Rattle.spec_protocol.proofs.Load.{load_proved, load_accepted}
use Rattle.load_needs.specs.Given.{fits_refusal}
use Rattle.load_needs.proofs.Refusals.{all_refusals}
use Rattle.load.specs.Exit.{job_exit, witness_exit, randomness_exit}
use Rattle.load.proofs.Whole.{job-length, witness-length, randomness-length}

-- the number of cells with something left of a load's transcript
abbrev pub load_cells_left : Given → ℕ → ℕ
load_cells_left G seed = cells_left (public (load_job G seed) (load_randomness G seed)) (load_vectors G seed)

-- a load that was refused nothing, and its three buffers at exit
module _ (G : Given) (seed : ℕ) (fits : seed < 2 ^ 32) (job wit rnd : List ℕ) (made : load_refusal G (length job) (length wit) (length rnd) ≡ fine) where
  admitted : needs_refusal G ≡ fine
  admitted = then_fine_left (needs_refusal G) (fits_refusal (load_parameters G) (length job) (length wit) (length rnd)) (sym (all_refusals G (length job) (length wit) (length rnd)) ∙ made)

  -- a buffer's needed part
  needed : (words buffer exit : List ℕ) (need : ℕ) → length words ≡ need → exit ≡ loaded (load_refusal G (length job) (length wit) (length rnd)) words buffer → take need exit ≡ words
  needed words buffer exit need size e = ap (take need) (e ∙ ap (λ a. loaded a words buffer) made) ∙ take_at words (drop (length words) buffer) need size

  module _ (j w ρ : List ℕ) (left-job : j ≡ job_exit G seed job wit rnd) (left-witness : w ≡ witness_exit G seed job wit rnd) (left-randomness : ρ ≡ randomness_exit G seed job wit rnd) where
    -- what is handed to the prover and the verifier
    abbrev pub J : List ℕ
    J = take (job_need G) j

    abbrev pub W : List ℕ
    W = take (witness_need G) w

    abbrev pub R : List ℕ
    R = take (randomness_need G) ρ

    J_is : J ≡ load_job G seed
    unfolding job_exit
    J_is = needed (load_job G seed) job j (job_need G) (job-length G seed fits) left-job

    W_is : W ≡ load_witness G seed
    unfolding witness_exit
    W_is = needed (load_witness G seed) wit w (witness_need G) (witness-length G seed fits) left-witness

    R_is : R ≡ load_randomness G seed
    unfolding randomness_exit
    R_is = needed (load_randomness G seed) rnd ρ (randomness_need G) (randomness-length G seed fits) left-randomness

    module _ (scratch output : List ℕ) (enough : scratch_need (load_parameters G) ≤ length scratch) (room : span (transcript_sections (load_parameters G)) ≤ length output) where
      -- the prover refuses nothing
      pub load_made : prove whole J R W (length scratch) (length output) ≡ fine
      load_made = (λ i. prove whole (J_is i) (R_is i) (W_is i) (length scratch) (length output)) ∙ load_proved G seed fits admitted (length scratch) (length output) enough room

      -- the verdict on its output: accepted, with the number of its cells that have something left
      pub load_judged : (exit : List ℕ) (lent : ℕ) → scratch_need (load_parameters G) ≤ lent → exit ≡ prove_output whole J R W scratch output
          → verify J R (take (span (transcript_sections (load_parameters G))) exit) lent ≡ accepted (load_cells_left G seed)
      load_judged exit lent lent-enough left =
          ap (λ o. verify J R (take (span (transcript_sections (load_parameters G))) o) lent) left
          ∙ (λ i. verify (J_is i) (R_is i) (take (span (transcript_sections (load_parameters G))) (prove_output whole (J_is i) (R_is i) (W_is i) scratch output)) lent)
          ∙ load_accepted G seed fits admitted scratch output lent enough room lent-enough

-- the same of what the three calls answer
module _ (G : Given) (seed : ℕ) (fits : seed < 2 ^ 32) (job wit rnd : List ℕ) (l : Result (Unit {0}) Refusal) (is : l ≡ Ok tt) (answered : of_result l ≡ load_refusal G (length job) (length wit)
    (length rnd)) where
  made : load_refusal G (length job) (length wit) (length rnd) ≡ fine
  made = sym answered ∙ ap of_result is

  module _ (j w ρ : List ℕ) (left-job : j ≡ job_exit G seed job wit rnd) (left-witness : w ≡ witness_exit G seed job wit rnd) (left-randomness : ρ ≡ randomness_exit G seed job wit rnd)
      (scratch output : List ℕ) (enough : scratch_need (load_parameters G) ≤ length scratch) (room : span (transcript_sections (load_parameters G)) ≤ length output) where
    -- the prover's answer
    pub load_is_proved : (p : Result (Unit {0}) Refusal) → of_result p ≡ prove whole (take (job_need G) j) (take (randomness_need G) ρ) (take (witness_need G) w) (length scratch) (length output)
        → of_result p ≡ fine
    load_is_proved p answer = answer ∙ load_made G seed fits job wit rnd made j w ρ left-job left-witness left-randomness scratch output enough room

    -- the verifier's verdict on its output
    pub load_is_accepted : (v : Verdict) (exit : List ℕ) (lent : ℕ) → scratch_need (load_parameters G) ≤ lent
        → exit ≡ prove_output whole (take (job_need G) j) (take (randomness_need G) ρ) (take (witness_need G) w) scratch output
        → of_verdict v ≡ verify (take (job_need G) j) (take (randomness_need G) ρ) (take (span (transcript_sections (load_parameters G))) exit) lent
        → of_verdict v ≡ accepted (load_cells_left G seed)
    load_is_accepted v exit lent lent-enough left judged =
        judged ∙ load_judged G seed fits job wit rnd made j w ρ left-job left-witness left-randomness scratch output enough room exit lent lent-enough left
