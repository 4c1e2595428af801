-- What a fine answer of the prover says, and what it then leaves in the output; the verifier refuses nothing of it.
use mathlib.Core.Path.{◌≡◌, refl, ap, ◌∙◌}
use mathlib.Core.List.{List, ◌++◌}
use Prim.Native.Nat.{ℕ, ◌≤◌}
use native.Mathlib.Decide.{dec_le}
use lib.ListN.{length, take, drop}
use lib.Seq.{take_at}
use Rattle.spec_leaves.specs.Answer.{fine, refused, result_of}
use Rattle.spec_leaves.specs.Rq.{Element}
use Rattle.spec_protocol.specs.Parameters.{parameters}
use Rattle.spec_protocol.specs.Layout.{span, sections, job_refusal, randomness_refusal, witness_refusal, transcript_refusal, scratch_refusal, output_refusal, scratch_need}
use Rattle.spec_protocol.specs.Views.{Public, public, witness}
use Rattle.spec_protocol.specs.Formulas as F
use Rattle.spec_protocol.specs.Prover.{Call, whole, made_sections, prove_refusal, witness_norm, t_norm, g_norm, h_norm, work_refusal, transcript, made, zeroed, prove, prove_output}
use Rattle.spec_protocol.proofs.Fine.{required, refused_not-fine, then_both_fine, then_fine_left, then_fine_right, then_fine_each}
use Rattle.spec_protocol.proofs.Sections.{Filled, filled_take, filled_drop, length-sections, layout-fine, ranged-fine}
use Rattle.spec_protocol.proofs.ReadBack.{transcript_filled}

-- what each part of the prover's refusals says where none is raised before the work
pub record Admitted (call : Call) (J R W : List ℕ) (scratch output : ℕ) : Type 0 where
  pub job : job_refusal J ≡ fine
  pub randomness : randomness_refusal (parameters J) call.handed R ≡ fine
  pub witness : witness_refusal (parameters J) W ≡ fine
  pub scratch_fits : scratch_need (parameters J) ≤ scratch
  pub output_fits : span (made_sections call (parameters J)) ≤ output

-- a call that is not refused before the work
pub admitted : (call : Call) (J R W : List ℕ) (scratch output : ℕ) → prove_refusal call J R W scratch output ≡ fine → Admitted call J R W scratch output
unfolding prove_refusal
admitted call J R W scratch output e =
    let P = parameters J in
    let each = then_fine_each (job_refusal J) (randomness_refusal P call.handed R) (witness_refusal P W) (scratch_refusal P scratch) (output_refusal (made_sections call P) output) e in
    record {
      job = each.0;
      randomness = each.1;
      witness = each.2;
      scratch_fits = required (dec_le (scratch_need P) scratch) (refused 1 (scratch_need P)) (refused_not-fine 1 (scratch_need P)) each.3;
      output_fits = required (dec_le (span (made_sections call P)) output) (refused 2 (span (made_sections call P))) (refused_not-fine 2 (span (made_sections call P))) each.4;
    }

-- the norms of a work that is not refused
pub record Short (X : Public) (s : ℕ → ℕ → Element) : Type 0 where
  pub of_witness : witness_norm X s ≡ fine
  pub of_t : t_norm X (F.t X s) ≡ fine
  pub of_g : g_norm X (F.g X s) ≡ fine
  pub of_h : h_norm X (F.h X s) ≡ fine

-- the whole call's work is refused nothing: all norms are within their bounds
pub short : (X : Public) (s : ℕ → ℕ → Element) → work_refusal X whole s ≡ fine → Short X s
unfolding work_refusal
short X s e =
    let each = then_fine_each fine (witness_norm X s) (t_norm X (F.t X s)) (g_norm X (F.g X s)) (h_norm X (F.h X s)) e in
    record { of_witness = each.1; of_t = each.2; of_g = each.3; of_h = each.4 }

module _ (call : Call) (X : Public) (s : ℕ → ℕ → Element) where
  open X use {P}

  -- the sections that a call makes have their counts and ranges
  pub made_filled : Filled (made_sections call P) (take call.makes (drop call.from (transcript X s)))
  made_filled = filled_take (filled_drop (transcript_filled X s) call.from) call.makes

  -- a call makes as many words as its sections span
  pub length-made : length (made X call s) ≡ span (made_sections call P)
  unfolding made
  length-made = length-sections made_filled

module _ (call : Call) (J R W scratch output : List ℕ) (e : prove call J R W (length scratch) (length output) ≡ fine) where
  -- nothing is refused before the work
  pub before-work : prove_refusal call J R W (length scratch) (length output) ≡ fine
  unfolding prove
  before-work = then_fine_left (prove_refusal call J R W (length scratch) (length output)) (work_refusal (public J R) call (witness (parameters J) W)) e

  -- nor in it
  pub in_work : work_refusal (public J R) call (witness (parameters J) W) ≡ fine
  unfolding prove
  in_work = then_fine_right (prove_refusal call J R W (length scratch) (length output)) (work_refusal (public J R) call (witness (parameters J) W)) e

  -- the output at exit: what the call makes, then the words beyond
  pub output_at_exit : prove_output call J R W scratch output ≡ made (public J R) call (witness (parameters J) W) ++ drop (span (made_sections call (parameters J))) output
  unfolding prove_output
  output_at_exit =
      let X = public J R in
      let s = witness (parameters J) W in
      let need = span (made_sections call (parameters J)) in
      ap (λ a. result_of a (result_of (work_refusal X call s) (made X call s ++ drop need output) (zeroed need output)) output) before-work
      ∙ ap (λ a. result_of a (made X call s ++ drop need output) (zeroed need output)) in_work

  -- the output's needed part is what the call makes
  pub output-made : take (span (made_sections call (parameters J))) (prove_output call J R W scratch output) ≡ made (public J R) call (witness (parameters J) W)
  output-made =
      let X = public J R in
      let s = witness (parameters J) W in
      let need = span (made_sections call (parameters J)) in
      ap (take need) output_at_exit ∙ take_at (made X call s) (drop need output) need (length-made call X s)

-- the whole call makes the transcript
pub made-whole : (X : Public) (s : ℕ → ℕ → Element) → made X whole s ≡ sections (transcript X s)
unfolding made transcript
made-whole X s = refl

-- the verifier refuses nothing of a transcript that is made
pub transcript-fine : (X : Public) (s : ℕ → ℕ → Element) → transcript_refusal X.P (sections (transcript X s)) ≡ fine
unfolding transcript_refusal
transcript-fine X s = then_both_fine (layout-fine (transcript_filled X s) 9) (ranged-fine (transcript_filled X s) 10)
