-- What two openings of one commitment give away (document 02, Item 13), over two of the eight verdicts that the call's contract ensures.
use mathlib.Core.Path.{◌≡◌, sym, ap, ◌∙◌}
use mathlib.Core.List.{List}
use Prim.Native.Nat.{ℕ, ◌<◌}
use native.Mathlib.Decide.{dec_lt}
use native.Mathlib.Omega.{arith}
use lib.ListN.{length, get_or, replicate}
use Rattle.math.proofs.lists.Padded.{padded-below, padded_past}
use Rattle.spec_leaves.specs.Answer.{accepted, number, result_of}
use Rattle.spec_protocol.specs.Many.{part_verdict}
use Rattle.spec_protocol.proofs.Acceptance.{many_no}
use Rattle.api_answers.specs.declared.verdicts.LabradorVerdict.{LabradorVerdict}
use Rattle.api_answers.specs.Calls.{labrador_verdict, failed_check}
use Rattle.api_answers.proofs.Number.{same_number}
use Rattle.spec_binding.specs.Openings.{opening_1, opening_2, EqualU1, EqualU2, GivenAway1, GivenAway2, SameTG, SameH}
use Rattle.spec_binding.proofs.Many.{part, zero_part, binding_1_of_parts, binding_2_of_parts, bound_1_of-parts, bound_2_of-parts}
use Rattle.verify_many.specs.declared.answers.LabradorVerdicts.{LabradorVerdicts}
use Rattle.verify_many.specs.Windows.{unused_verdict, verdicts_of}
use Rattle.verify_many.specs.Answers.{many_verdicts}

-- verdict m of an answer
abbrev pub verdict_at : LabradorVerdicts → ℕ → LabradorVerdict
verdict_at x m = get_or x.verdicts m unused_verdict

-- eight verdicts are given
module _ (J : List ℕ) (count : ℕ) (R T scratch : List ℕ) (x : LabradorVerdicts) (is : x ≡ many_verdicts J count R T (length scratch)) (whole : x.number ≡ 0) where
  verdicts_are : x.verdicts ≡ verdicts_of J count R T
  verdicts_are =
      let e = (many_no J count (length scratch)).numbered (sym (ap (λ (x : LabradorVerdicts). x.number) is) ∙ whole) in
      ap (λ (x : LabradorVerdicts). x.verdicts) is ∙ ap (λ a. result_of a (verdicts_of J count R T) (replicate 8 (failed_check 0 0 0 0))) e

  -- one of them with the number 0 is that of a transcript
  verdict_is : (m : ℕ) → m < 8 → (verdict_at x m).number ≡ 0 → verdict_at x m ≡ labrador_verdict (part_verdict J count R T m)
  verdict_is m h e = by (dec_lt m count)
    where
      f : ℕ → LabradorVerdict
      f m = labrador_verdict (part_verdict J count R T m)

      by : Dec (m < count) → verdict_at x m ≡ f m
      by (yes l) = ap (λ l. get_or l m unused_verdict) verdicts_are ∙ padded-below 8 unused_verdict f count m h l
      by (no l) =
          let past : verdict_at x m ≡ unused_verdict = ap (λ l. get_or l m unused_verdict) verdicts_are ∙ padded_past 8 unused_verdict f count m h (omega arith) in
          let z : ◌≡◌ {A = ℕ} 4294967295 0 = sym (ap (λ (v : LabradorVerdict). v.number) past) ∙ e in
          absurd (omega arith)

  -- with the number 0
  zero_of : (m : ℕ) → m < 8 → (verdict_at x m).number ≡ 0 → number (part_verdict J count R T m) ≡ 0
  zero_of m h e = sym (same_number (part_verdict J count R T m)) ∙ sym (ap (λ (v : LabradorVerdict). v.number) (verdict_is m h e)) ∙ e

  -- and where no cell is left, it is an acceptance without one
  pub none-left_of : (m : ℕ) → m < 8 → (verdict_at x m).number ≡ 0 → (verdict_at x m).cells_left ≡ 0 → part_verdict J count R T m ≡ accepted 0
  none-left_of m h e none =
      let found = zero_part J count R T m (zero_of m h e) in
      found.1 ∙ ap accepted (sym (ap (λ (v : LabradorVerdict). v.cells_left) (verdict_is m h e ∙ ap labrador_verdict found.1)) ∙ none)

  module _ (i j : ℕ) (h : i < 8) (k : j < 8) (e : (verdict_at x i).number ≡ 0) (f : (verdict_at x j).number ≡ 0) where
    pub binding_1_over_many : EqualU1 J (part J count R T i) (part J count R T j) → (opening_1 J (part J count R T i) ≡ opening_1 J (part J count R T j) → ⊥)
        → GivenAway1 J (part J count R T i) (part J count R T j)
    binding_1_over_many = binding_1_of_parts J count R T i j (zero_of i h e) (zero_of j k f)

    pub binding_2_over_many : EqualU2 J (part J count R T i) (part J count R T j) → (opening_2 J (part J count R T i) ≡ opening_2 J (part J count R T j) → ⊥)
        → GivenAway2 J (part J count R T i) (part J count R T j)
    binding_2_over_many = binding_2_of_parts J count R T i j (zero_of i h e) (zero_of j k f)

    -- and state that no cell has something left
    module _ (none : (verdict_at x i).cells_left ≡ 0) (none' : (verdict_at x j).cells_left ≡ 0) where
      pub bound_1_over_many : EqualU1 J (part J count R T i) (part J count R T j) → (SameTG J (part J count R T i) (part J count R T j) → ⊥)
          → GivenAway1 J (part J count R T i) (part J count R T j)
      bound_1_over_many = bound_1_of-parts J count R T i j (none-left_of i h e none) (none-left_of j k f none')

      pub bound_2_over_many : EqualU2 J (part J count R T i) (part J count R T j) → (SameH J (part J count R T i) (part J count R T j) → ⊥)
          → GivenAway2 J (part J count R T i) (part J count R T j)
      bound_2_over_many = bound_2_of-parts J count R T i j (none-left_of i h e none) (none-left_of j k f none')
