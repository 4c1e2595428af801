-- What follows of an answer that is a refusal.
use mathlib.Core.Path.{◌≡◌, refl}
use Rattle.spec_leaves.specs.declared.answers.Refusal.{Refusal}
use Rattle.spec_leaves.specs.declared.answers.Refusal.TheVariants as R
use Rattle.spec_leaves.specs.Answer.{result_of, of_refusal}

-- a refusal's result is none
pub refusal_none {ℓ} : {A : Type ℓ} (r : Refusal) (value none : A) → none ≡ result_of (of_refusal r) value none
refusal_none (R.ScratchTooShort params) value none = refl
refusal_none (R.OutputTooShort params) value none = refl
refusal_none (R.JobLayout params) value none = refl
refusal_none (R.ParameterOutOfLimits params) value none = refl
refusal_none (R.TooFewAggregations params) value none = refl
refusal_none (R.JobWord params) value none = refl
refusal_none (R.RandomnessLayout params) value none = refl
refusal_none (R.RandomnessWord params) value none = refl
refusal_none (R.TranscriptLayout params) value none = refl
refusal_none (R.TranscriptWord params) value none = refl
refusal_none (R.WitnessLayout params) value none = refl
refusal_none (R.WitnessWord params) value none = refl
refusal_none (R.WitnessNorm params) value none = refl
refusal_none R.DigitsOfT value none = refl
refusal_none R.DigitsOfG value none = refl
refusal_none R.DigitsOfH value none = refl
