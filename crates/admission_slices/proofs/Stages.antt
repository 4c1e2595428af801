-- Answers one after the other: the first refusal is the answer.
use mathlib.Core.Path.{◌≡◌, refl, ap, ◌∙◌}
use Rattle.spec_leaves.specs.declared.answers.Refusal.{Refusal}
use Rattle.spec_leaves.specs.declared.answers.Refusal.TheVariants as R
use Rattle.spec_leaves.specs.Answer.{Answer, fine, of_refusal, ◌then◌}
use Rattle.layout_sections.proofs.Then.{goes_on}

-- a refusal stays, whatever follows
stays : (r : Refusal) (b : Answer) → of_refusal r ≡ of_refusal r then b
stays (R.ScratchTooShort p) b = refl
stays (R.OutputTooShort p) b = refl
stays (R.JobLayout p) b = refl
stays (R.ParameterOutOfLimits p) b = refl
stays (R.TooFewAggregations p) b = refl
stays (R.JobWord p) b = refl
stays (R.RandomnessLayout p) b = refl
stays (R.RandomnessWord p) b = refl
stays (R.TranscriptLayout p) b = refl
stays (R.TranscriptWord p) b = refl
stays (R.WitnessLayout p) b = refl
stays (R.WitnessWord p) b = refl
stays (R.WitnessNorm p) b = refl
stays R.DigitsOfT b = refl
stays R.DigitsOfG b = refl
stays R.DigitsOfH b = refl

-- a refusal is the answer, whatever follows
pub stops_at : (r : Refusal) {a : Answer} (b : Answer) → of_refusal r ≡ a → of_refusal r ≡ a then b
stops_at r b e = stays r b ∙ ap (λ x. x then b) e

-- four answers one after the other
module _ (a b c d : Answer) where
  pub stage₁ : (r : Refusal) → of_refusal r ≡ a → of_refusal r ≡ a then b then c then d
  stage₁ r e = stops_at r d (stops_at r c (stops_at r b e))

  module _ (f : fine ≡ a) where
    pub stage₂ : (r : Refusal) → of_refusal r ≡ b → of_refusal r ≡ a then b then c then d
    stage₂ r e = stops_at r d (stops_at r c (goes_on f e))

    module _ (g : fine ≡ b) where
      pub stage₃ : (r : Refusal) → of_refusal r ≡ c → of_refusal r ≡ a then b then c then d
      stage₃ r e = stops_at r d (goes_on (goes_on f g) e)

      pub stage₄ : fine ≡ c → {z : Answer} → z ≡ d → z ≡ a then b then c then d
      stage₄ h e = goes_on (goes_on (goes_on f g) h) e
