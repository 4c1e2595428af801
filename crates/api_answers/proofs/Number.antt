-- A verdict has the number of its answer.
use mathlib.Core.Path.{◌≡◌, refl}
use mathlib.Core.List.{[], ◌∷◌}
use Rattle.spec_leaves.specs.Answer.{Answer, fine, accepted, refused, failed, number}
use Rattle.api_answers.specs.Calls.{labrador_verdict}

pub same_number : (a : Answer) → (labrador_verdict a).number ≡ number a
same_number fine = refl
same_number (accepted cells) = refl
same_number (refused n p) = refl
same_number (failed n []) = refl
same_number (failed n (a ∷ [])) = refl
same_number (failed n (a ∷ b ∷ [])) = refl
same_number (failed n (k ∷ a ∷ b ∷ vs)) = refl
