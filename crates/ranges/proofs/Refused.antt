-- Refusals as answers of the call on ranges.
use mathlib.Core.Path.{◌≡◌, sym, ap, ◌∙◌}
use mathlib.Core.List.{List}
use Prim.Native.Nat.{ℕ, min}
use native.Mathlib.Decide.{ℕ_discrete}
use native.Mathlib.Omega.{arith}
use lib.IntN.{ℤ}
use lib.ListN.{replicate}
use Rattle.math.specs.lists.Table.{padded}
use Rattle.spec_leaves.specs.declared.answers.Refusal.{Refusal}
use Rattle.spec_leaves.specs.Answer.{Answer, fine, refused, number, place, result_of, of_refusal}
use Rattle.spec_protocol.specs.Parameters.{Parameters}
use Rattle.spec_protocol.specs.Ranges.{unused, length_refusal}
use Rattle.spec_protocol.proofs.Fine.{require-holds, require_fails, refused_not-fine}
use Rattle.admission_slices.proofs.Fit.{refusal_none}
use Rattle.ranges_vectors.specs.Vectors.{range_norms}
use Rattle.ranges.specs.declared.answers.RangesAnswer.{RangesAnswer}
use Rattle.ranges.specs.declared.answers.RangesError.{RangesError}
use Rattle.ranges.specs.declared.answers.RangesError.TheVariants as E
use Rattle.ranges.specs.Answers.{refused_ranges, ranges_answer, of_ranges_error, Ranges}

-- a list that is of another length, or right
module _ (need handed : ℕ) where
  pub other_length : (shorter : ℕ) → shorter ≡ min handed need → (handed ≡ need → ⊥) → refused 11 shorter ≡ length_refusal need handed
  other_length shorter e n = ap (refused 11) e ∙ sym (require_fails (ℕ_discrete handed need) (refused 11 (min handed need)) n)

  pub right_length : handed ≡ need → fine ≡ length_refusal need handed
  right_length e = sym (require-holds (ℕ_discrete handed need) (refused 11 (min handed need)) e)

-- a refusal of document 01's list is not fine
never_fine : (r : Refusal) → of_refusal r ≡ fine → ⊥
never_fine r e = let n : ◌≡◌ {A = ℕ} 0 1 = refusal_none r 1 0 ∙ ap (λ a. result_of a 1 0) e in omega arith

module _ (P : Parameters) (lows highs : List ℤ) (a : Answer) (x : RangesAnswer) where
  -- a refusal of document 01's list
  pub refusal_ranges : (r : Refusal) → of_refusal r ≡ a → x ≡ refused_ranges (number (of_refusal r)) (place (of_refusal r)) → Ranges P lows highs a x
  refusal_ranges r q h = record {
    vectors = λ i. unused;
    hold = λ e. absurd (never_fine r (q ∙ e));
    answer = h ∙ kept ∙ ap (λ b. ranges_answer b P.r (λ i. unused)) q;
  }
    where
      kept : refused_ranges (number (of_refusal r)) (place (of_refusal r)) ≡ ranges_answer (of_refusal r) P.r (λ i. unused)
      kept i = record {
        number = number (of_refusal r);
        place = place (of_refusal r);
        vectors = refusal_none r (padded 16 P.r (range_norms unused) (λ i. range_norms unused)) (replicate 16 (range_norms unused)) i;
      }

  -- 36 and 37
  pub numbered_ranges : (n p : ℕ) → refused n p ≡ a → x ≡ refused_ranges n p → Ranges P lows highs a x
  numbered_ranges n p q h = record {
    vectors = λ i. unused;
    hold = λ e. absurd (refused_not-fine n p (q ∙ e));
    answer = h ∙ ap (λ b. ranges_answer b P.r (λ i. unused)) q;
  }

  -- what is refused of the lows and the highs
  pub error_ranges : (e : RangesError) → of_ranges_error e ≡ a → x ≡ refused_ranges (number (of_ranges_error e)) (place (of_ranges_error e)) → Ranges P lows highs a x
  error_ranges (E.Refused r) = refusal_ranges r
  error_ranges (E.Crossed p) = numbered_ranges 36 p
  error_ranges (E.Beyond p) = numbered_ranges 37 p
