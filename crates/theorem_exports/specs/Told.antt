-- Demand 3's sentences, and refusal 13, of the structs that are answered.
use Rattle.std.specs.Prelude.{◌≡◌, ◌↔◌, ◌⊎◌, ℕ, ◌<◌, get_or}
use Rattle.spec_leaves.specs.Answer.{Answer}
use Rattle.spec_leaves.specs.Rq.{Element}
use Rattle.spec_protocol.specs.Views.{Public}
use Rattle.spec_protocol.specs.Conditions.{cells_left, Held, Named, Meets}
use Rattle.spec_protocol.specs.Ranges.{unused}
use Rattle.api_answers.specs.declared.verdicts.LabradorVerdict.{LabradorVerdict}
use Rattle.api_answers.specs.Calls.{labrador_verdict}
use Rattle.ranges_vectors.specs.Vectors.{range_norms}
use Rattle.ranges.specs.declared.answers.RangesAnswer.{RangesAnswer}

-- demand 3's sentences, of a verdict
pub record Demand3Told (X : Public) (s : ℕ → ℕ → Element) (v : LabradorVerdict) : Type 0 where
  -- "It accepts exactly when" the four hold
  pub accepts_exactly_when : (v.number ≡ 0) ↔ Held X s
  -- and has the number of cells with something left
  pub cells_of_it : v.number ≡ 0 → v.cells_left ≡ cells_left X s
  -- "the verifier never refuses it": no refusal's number from 1 to 16, no place
  pub never_refuses : (0 < v.number → v.number < 21 → ⊥) × (v.place ≡ 0)
  -- "it names the first of these four, in this order, that fails, with its figures, and none of document 01's other checks ever fails"
  pub names_the_first : (a : Answer) × (Named X s a × (v ≡ labrador_verdict a))
  -- "A witness that meets all constraints can fail by norm only, the projection's or the digits'."
  pub by_norm_only : Meets X s → (v.number ≡ 0) ⊎ ((v.number ≡ 21) ⊎ (v.number ≡ 23))

-- what is told of witness vector i: 1 for every choice, 2 for some but not every, 3 for none
abbrev pub meets_at : RangesAnswer → ℕ → ℕ
meets_at r i = (get_or r.vectors i (range_norms unused)).meets

-- i is the lowest of n vectors whose norm is above A's bound; the bound is met before it
pub record LowestAbove (r : RangesAnswer) (n i : ℕ) : Type 0 where
  pub within : i < n
  pub above : meets_at r i ≡ 3
  pub met_before : (j : ℕ) → j < i → meets_at r j ≡ 1
