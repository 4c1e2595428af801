-- The structs of the exported calls on whole slices as answers.
use Rattle.std.specs.Prelude.{[], ◌∷◌, ℕ, ◌/◌, ◌%◌, ◌^◌}
use Rattle.spec_leaves.specs.Answer.{Answer, fine, accepted, refused, failed, number, place, result_of}
use Rattle.api_answers.specs.declared.verdicts.LabradorAnswer.{LabradorAnswer}
use Rattle.api_answers.specs.declared.verdicts.LabradorNeed.{LabradorNeed}
use Rattle.api_answers.specs.declared.verdicts.LabradorVerdict.{LabradorVerdict}

-- the number and the place of a refusal, 0 and 0 where all is well
abbrev pub labrador_answer : Answer → LabradorAnswer
labrador_answer a = record { number = number a; place = place a }

-- a length needed, 0 on a refusal
abbrev pub labrador_need : Answer → ℕ → LabradorNeed
labrador_need a need = record { number = number a; place = place a; words = result_of a need 0 }

-- a check that fails, with an index in 32 bits and two values
abbrev pub failed_check : (n index first second : ℕ) → LabradorVerdict
failed_check n index first second = record {
  number = n;
  index = index % 2 ^ 32;
  first_hi = first / 2 ^ 64;
  first_lo = first % 2 ^ 64;
  second_hi = second / 2 ^ 64;
  second_lo = second % 2 ^ 64;
  place = 0;
  cells_left = 0;
}

-- the verdict: an acceptance with the number of cells that have something left (document 02, Item 5); a refusal's number and place; a failed check's number
-- with its values, "norm and limit", "lowest k, both values", "sum and limit"
abbrev pub labrador_verdict : Answer → LabradorVerdict
labrador_verdict fine = failed_check 0 0 0 0
labrador_verdict (accepted cells) = record { number = 0; index = 0; first_hi = 0; first_lo = 0; second_hi = 0; second_lo = 0; place = 0; cells_left = cells }
labrador_verdict (refused n p) = record { number = n; index = 0; first_hi = 0; first_lo = 0; second_hi = 0; second_lo = 0; place = p; cells_left = 0 }
labrador_verdict (failed n []) = failed_check n 0 0 0
labrador_verdict (failed n (a ∷ [])) = failed_check n 0 a 0
labrador_verdict (failed n (a ∷ b ∷ [])) = failed_check n 0 a b
labrador_verdict (failed n (k ∷ a ∷ b ∷ vs)) = failed_check n k a b
