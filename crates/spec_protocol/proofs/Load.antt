-- The prover makes a transcript of every load, and the verifier accepts it.
use mathlib.Core.Path.{◌≡◌, refl, ◌∙◌}
use mathlib.Core.List.{List}
use Prim.Native.Nat.{ℕ, ◌≤◌, ◌<◌, ◌^◌}
use native.Mathlib.Decide.{dec_le}
use lib.ListN.{length, take}
use Rattle.spec_leaves.specs.Zq.{top_Q}
use Rattle.spec_leaves.specs.Answer.{fine, accepted, refused, ◌then◌}
use Rattle.spec_leaves.specs.Leaf.{limited}
use Rattle.spec_leaves.proofs.Leaf.{limited-fine}
use Rattle.spec_protocol.specs.Parameters.{some_constraint, limits, enough_aggregations}
use Rattle.spec_protocol.specs.Layout.{span, sections, transcript_sections, scratch_need, randomness_refusal}
use Rattle.spec_protocol.specs.Views.{public}
use Rattle.spec_protocol.specs.Prover.{whole, prove_refusal, prove, prove_output}
use Rattle.spec_protocol.specs.Verifier.{verify}
use Rattle.spec_protocol.specs.Conditions.{cells_left, conditions}
use Rattle.spec_protocol.specs.Load.{Given, load_parameters, needs_refusal, load_witness, load_randomness, load_job, load_vectors}
use Rattle.spec_protocol.proofs.Fine.{require-holds, then_both_fine, then_fine_left, then_fine_right}
use Rattle.spec_protocol.proofs.LoadJob.{load_job-fine, load_randomness-fine, load_witness-fine, load_constant_met, load_ring_met}
use Rattle.spec_protocol.proofs.LoadNorms.{Ample, work-fine, conditions-accepted}
use Rattle.spec_protocol.proofs.Demand3.{demand_3}

-- the parameters of a load within their limits
ample : (G : Given) → limits (load_parameters G) ≡ fine → Ample (load_parameters G)
unfolding limits
ample G e =
    let P = load_parameters G in
    let l1 = limited 1 64 1 P.n in
    let l2 = l1 then limited 1 16 2 P.r in
    let l3 = l2 then limited 1 16 3 P.κ in
    let l4 = l3 then limited 1 16 4 P.κ₁ in
    let l5 = l4 then limited 1 16 5 P.κ₂ in
    let l6 = l5 then limited 0 64 6 P.K in
    let l7 = l6 then limited 0 64 7 P.l in
    let some = l7 then some_constraint P in
    let l8 = some then limited 16 32 8 P.log_q in
    let l9 = l8 then limited 2 top_Q 9 P.b in
    let l10 = l9 then limited 1 32 10 P.t₁ in
    let l11 = l10 then limited 1 32 11 P.t₂ in
    let e11 : l11 ≡ fine = then_fine_left l11 (limited 1 32 12 P.L) e in
    let e10 : l10 ≡ fine = then_fine_left l10 (limited 1 32 11 P.t₂) e11 in
    let e9 : l9 ≡ fine = then_fine_left l9 (limited 1 32 10 P.t₁) e10 in
    let e8 : l8 ≡ fine = then_fine_left l8 (limited 2 top_Q 9 P.b) e9 in
    let e7 : l7 ≡ fine = then_fine_left l7 (some_constraint P) (then_fine_left some (limited 16 32 8 P.log_q) e8) in
    let e6 : l6 ≡ fine = then_fine_left l6 (limited 0 64 7 P.l) e7 in
    let e5 : l5 ≡ fine = then_fine_left l5 (limited 0 64 6 P.K) e6 in
    let e4 : l4 ≡ fine = then_fine_left l4 (limited 1 16 5 P.κ₂) e5 in
    let e3 : l3 ≡ fine = then_fine_left l3 (limited 1 16 4 P.κ₁) e4 in
    let e2 : l2 ≡ fine = then_fine_left l2 (limited 1 16 3 P.κ) e3 in
    record {
      n = (limited-fine 4 1 64 1 P.n (then_fine_left l1 (limited 1 16 2 P.r) e2)).1;
      r = (limited-fine 4 1 16 2 P.r (then_fine_right l1 (limited 1 16 2 P.r) e2)).1;
      κ = (limited-fine 4 1 16 3 P.κ (then_fine_right l2 (limited 1 16 3 P.κ) e3)).1;
      t₁ = (limited-fine 4 1 32 10 P.t₁ (then_fine_right l9 (limited 1 32 10 P.t₁) e10)).1;
      t₂ = (limited-fine 4 1 32 11 P.t₂ (then_fine_right l10 (limited 1 32 11 P.t₂) e11)).1;
      beta_sq = refl;
      beta_prime_sq = refl;
      bound_A = refl;
      bound_B = refl;
      bound_C = refl;
      bound_D = refl;
    }

module _ (G : Given) (seed : ℕ) (fits : seed < 2 ^ 32) (admitted : needs_refusal G ≡ fine) where
  within : limits (load_parameters G) ≡ fine
  within = then_fine_left (limits (load_parameters G)) (enough_aggregations (load_parameters G)) admitted

  -- the prover refuses nothing of a load's job and witness, with any randomness that is refused nothing: it makes a transcript
  pub load_proved_with : (R : List ℕ) → randomness_refusal (load_parameters G) 7 R ≡ fine → (scratch output : ℕ) → scratch_need (load_parameters G) ≤ scratch
      → span (transcript_sections (load_parameters G)) ≤ output
      → prove whole (load_job G seed) R (load_witness G seed) scratch output ≡ fine
  unfolding prove prove_refusal load_job sections
  load_proved_with R e scratch output enough room =
      let P = load_parameters G in
      then_both_fine
      (then_both_fine
      (then_both_fine
      (then_both_fine
      (then_both_fine (load_job-fine G seed fits within (then_fine_right (limits P) (enough_aggregations P) admitted)) e)
      (load_witness-fine G seed fits))
      (require-holds (dec_le (scratch_need P) scratch) (refused 1 (scratch_need P)) enough))
      (require-holds (dec_le (span (transcript_sections P)) output) (refused 2 (span (transcript_sections P))) room))
      (work-fine (public (load_job G seed) R) (load_vectors G seed) (ample G within))

  -- and so of a load
  pub load_proved : (scratch output : ℕ) → scratch_need (load_parameters G) ≤ scratch → span (transcript_sections (load_parameters G)) ≤ output
      → prove whole (load_job G seed) (load_randomness G seed) (load_witness G seed) scratch output ≡ fine
  load_proved = load_proved_with (load_randomness G seed) (load_randomness-fine G seed fits)

  -- the four conditions hold of a load's witness, with any randomness
  pub load_conditions : (R : List ℕ) → conditions (public (load_job G seed) R) (load_vectors G seed) ≡ accepted (cells_left (public (load_job G seed) R) (load_vectors G seed))
  unfolding load_job sections
  load_conditions R = conditions-accepted (public (load_job G seed) R) (load_vectors G seed) (ample G within) (load_constant_met G seed fits R) (load_ring_met G seed fits R)

  -- the verifier accepts it, with the number of its cells that have something left
  pub load_accepted : (scratch output : List ℕ) (lent : ℕ) → scratch_need (load_parameters G) ≤ length scratch → span (transcript_sections (load_parameters G)) ≤ length output
      → scratch_need (load_parameters G) ≤ lent
      → verify (load_job G seed) (load_randomness G seed)
      (take (span (transcript_sections (load_parameters G))) (prove_output whole (load_job G seed) (load_randomness G seed) (load_witness G seed) scratch output)) lent
      ≡ accepted (cells_left (public (load_job G seed) (load_randomness G seed)) (load_vectors G seed))
  unfolding load_job sections
  load_accepted scratch output lent enough room lent-enough =
      demand_3 (load_job G seed) (load_randomness G seed) (load_witness G seed) scratch output lent (load_proved (length scratch) (length output) enough room) lent-enough
      ∙ load_conditions (load_randomness G seed)
