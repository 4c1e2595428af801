-- What a verdict comes to: 14 to 16 stay, 22 asks for the list, and any other is a 32.
use mathlib.Core.Path.{◌≡◌, refl, sym, ap, ◌∙◌}
use mathlib.Core.Logic.{inl, inr}
use mathlib.Core.List.{[], ◌∷◌}
use Prim.Native.Nat.{ℕ, ◌<◌}
use native.Mathlib.Omega.{arith}
use denote.Enum.Declared.{tag_of}
use types.Run.{OneOf}
use Rattle.spec_leaves.specs.contracts.answers.FailedCheck.{the_type}
use Rattle.spec_leaves.specs.Answer.{Answer, accepted, refused, number, of_refusal, of_failed}
use Rattle.spec_leaves.specs.declared.answers.Refusal.{Refusal}
use Rattle.spec_leaves.specs.declared.answers.Refusal.TheVariants as R
use Rattle.spec_leaves.specs.declared.answers.FailedCheck.{FailedCheck}
use Rattle.spec_leaves.specs.declared.answers.FailedCheck.TheVariants as F
use Rattle.spec_protocol.specs.Mistyped.{judged}

-- a refusal's number and place
pub record Numbered (r : Refusal) : Type 0 where
  pub number : ℕ
  pub place : ℕ
  pub is : of_refusal r ≡ refused number place
  pub low : number < 22

pub numbered : (r : Refusal) → Numbered r
numbered (R.ScratchTooShort p) = record { number = 1; place = p; is = refl; low = omega arith }
numbered (R.OutputTooShort p) = record { number = 2; place = p; is = refl; low = omega arith }
numbered (R.JobLayout p) = record { number = 3; place = p; is = refl; low = omega arith }
numbered (R.ParameterOutOfLimits p) = record { number = 4; place = p; is = refl; low = omega arith }
numbered (R.TooFewAggregations p) = record { number = 5; place = p; is = refl; low = omega arith }
numbered (R.JobWord p) = record { number = 6; place = p; is = refl; low = omega arith }
numbered (R.RandomnessLayout p) = record { number = 7; place = p; is = refl; low = omega arith }
numbered (R.RandomnessWord p) = record { number = 8; place = p; is = refl; low = omega arith }
numbered (R.TranscriptLayout p) = record { number = 9; place = p; is = refl; low = omega arith }
numbered (R.TranscriptWord p) = record { number = 10; place = p; is = refl; low = omega arith }
numbered (R.WitnessLayout p) = record { number = 11; place = p; is = refl; low = omega arith }
numbered (R.WitnessWord p) = record { number = 12; place = p; is = refl; low = omega arith }
numbered (R.WitnessNorm p) = record { number = 13; place = p; is = refl; low = omega arith }
numbered R.DigitsOfT = record { number = 14; place = 0; is = refl; low = omega arith }
numbered R.DigitsOfG = record { number = 15; place = 0; is = refl; low = omega arith }
numbered R.DigitsOfH = record { number = 16; place = 0; is = refl; low = omega arith }

-- a verdict that is not a failed 22 comes to an answer without a list
pub record Without (v a : Answer) : Type 0 where
  pub not_22 : number v ≡ 22 → ⊥
  pub comes_to : judged v [] ≡ a

-- an accepted one
pub accepted_without : (cells : ℕ) → Without (accepted cells) (refused 32 0)
accepted_without cells = record { not_22 = λ e. omega arith; comes_to = refl }

-- a refusal
pub refused_without : (r : Refusal) → Without (of_refusal r) (of_refusal r)
refused_without r =
    let n = numbered r in
    record {
      not_22 = λ e. let f : n.number ≡ 22 = sym (ap number n.is) ∙ e in let l = n.low in omega arith;
      comes_to = ap (λ v. judged v []) n.is ∙ sym n.is;
    }

-- another failed check
pub failed_without : (f : FailedCheck) → OneOf (0 ∷ 2 ∷ 3 ∷ 4 ∷ 5 ∷ 6 ∷ 7 ∷ 8 ∷ []) (tag_of the_type f) → Without (of_failed f) (refused 32 0)
failed_without (F.ProjectionNorm norm limit) k = record { not_22 = λ e. omega arith; comes_to = refl }
failed_without (F.B0Mismatch index sent computed) k = absurd (go k)
  where
    go : OneOf (0 ∷ 2 ∷ 3 ∷ 4 ∷ 5 ∷ 6 ∷ 7 ∷ 8 ∷ []) 1 → ⊥
    go (inl k) = let z : ◌≡◌ {A = ℕ} 1 0 = k in omega arith
    go (inr (inl k)) = let z : ◌≡◌ {A = ℕ} 1 2 = k in omega arith
    go (inr (inr (inl k))) = let z : ◌≡◌ {A = ℕ} 1 3 = k in omega arith
    go (inr (inr (inr (inl k)))) = let z : ◌≡◌ {A = ℕ} 1 4 = k in omega arith
    go (inr (inr (inr (inr (inl k))))) = let z : ◌≡◌ {A = ℕ} 1 5 = k in omega arith
    go (inr (inr (inr (inr (inr (inl k)))))) = let z : ◌≡◌ {A = ℕ} 1 6 = k in omega arith
    go (inr (inr (inr (inr (inr (inr (inl k))))))) = let z : ◌≡◌ {A = ℕ} 1 7 = k in omega arith
    go (inr (inr (inr (inr (inr (inr (inr k))))))) = let z : ◌≡◌ {A = ℕ} 1 8 = k in omega arith
failed_without (F.NormSum sum limit) k = record { not_22 = λ e. omega arith; comes_to = refl }
failed_without F.Az k = record { not_22 = λ e. omega arith; comes_to = refl }
failed_without F.ZInner k = record { not_22 = λ e. omega arith; comes_to = refl }
failed_without F.Phi k = record { not_22 = λ e. omega arith; comes_to = refl }
failed_without F.Relation k = record { not_22 = λ e. omega arith; comes_to = refl }
failed_without F.OuterCommitU1 k = record { not_22 = λ e. omega arith; comes_to = refl }
failed_without F.OuterCommitU2 k = record { not_22 = λ e. omega arith; comes_to = refl }
