-- The refusals of the adding call, test after test, and what holds where there is none.
use mathlib.Core.Path.{◌≡◌, sym, ap, ◌∙◌}
use mathlib.Core.List.{List}
use Prim.Native.Nat.{ℕ, ◌≤◌}
use native.Mathlib.Decide.{dec_le}
use native.Mathlib.Omega.{arith}
use lib.ListN.{length}
use Rattle.spec_leaves.specs.declared.answers.Refusal.{Refusal}
use Rattle.spec_leaves.specs.Answer.{Answer, fine, refused, result_of, of_refusal, ◌then◌}
use Rattle.spec_protocol.specs.Layout.{span, layout, ranged, output_refusal}
use Rattle.spec_protocol.proofs.Fine.{required, refused_not-fine, then_fine_left, then_fine_right}
use Rattle.spec_protocol.proofs.Laid.{layout-whole}
use Rattle.layout_sections.proofs.Then.{goes_on}
use Rattle.admission_slices.proofs.Stages.{stops_at}
use Rattle.admission_slices.proofs.Fit.{refusal_none}
use Rattle.admission_buffers.specs.Lengths.{short_output}
use Rattle.shed_admission.specs.Found.{one_refusal}
use Rattle.spec_sheds.specs.Runs.{p_section, stored, p_sum, p_refusal, add_refusal, add_output}

module _ (p q : List ℕ) (output : ℕ) where
  pub first_refuses : (r : Refusal) → of_refusal r ≡ one_refusal 9 10 256 p → of_refusal r ≡ add_refusal p q output
  unfolding add_refusal p_refusal one_refusal
  first_refuses r e = stops_at r (output_refusal p_section output) (stops_at r (p_refusal q) e)

  module _ (a : fine ≡ one_refusal 9 10 256 p) where
    pub second_refuses : (r : Refusal) → of_refusal r ≡ one_refusal 9 10 256 q → of_refusal r ≡ add_refusal p q output
    unfolding add_refusal p_refusal one_refusal
    second_refuses r e = stops_at r (output_refusal p_section output) (goes_on a e)

    pub output-answers : fine ≡ one_refusal 9 10 256 q → {z : Answer} → z ≡ short_output 257 output → z ≡ add_refusal p q output
    unfolding add_refusal p_refusal one_refusal short_output span
    output-answers b e = goes_on (goes_on a b) e

-- a p that is refused nothing has 257 words
p-length : (p : List ℕ) → p_refusal p ≡ fine → 257 ≤ length p
unfolding p_refusal span
p-length p e = omega (arith, layout-whole 9 p 0 p_section (omega arith) (then_fine_left (layout 9 p 0 p_section) (ranged 10 p 0 p_section) e))

pub lengths : (p q : List ℕ) (output : ℕ) → fine ≡ add_refusal p q output → (257 ≤ length p) × (257 ≤ length q) × (257 ≤ output)
unfolding add_refusal span
lengths p q output e =
    let o = output_refusal p_section output in
    let both = then_fine_left (p_refusal p then p_refusal q) o (sym e) in (
      p-length p (then_fine_left (p_refusal p) (p_refusal q) both),
      p-length q (then_fine_right (p_refusal p) (p_refusal q) both),
      required (dec_le 257 output) (refused 2 257) (refused_not-fine 2 257) (then_fine_right (p_refusal p then p_refusal q) o (sym e)),
    )

-- the output of a call that is refused, and of one that is not
module _ (p q output : List ℕ) where
  pub refused-output : (r : Refusal) → of_refusal r ≡ add_refusal p q (length output) → output ≡ add_output p q output
  unfolding add_output
  refused-output r e = refusal_none r (stored p_section (p_sum p q) output) output ∙ ap (λ a. result_of a (stored p_section (p_sum p q) output) output) e

  pub made-output : fine ≡ add_refusal p q (length output) → stored p_section (p_sum p q) output ≡ add_output p q output
  unfolding add_output
  made-output e = ap (λ a. result_of a (stored p_section (p_sum p q) output) output) e
