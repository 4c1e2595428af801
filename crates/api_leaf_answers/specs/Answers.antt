-- The structs of the exported leaf calls as answers: the number and the place, and the result, which is zero on a refusal.
use Rattle.std.specs.Prelude.{List, ℕ, ◌/◌, ◌%◌, ◌^◌, ℤ, pos, replicate, take, drop}
use Rattle.spec_leaves.specs.declared.answers.Decomposed.{Decomposed}
use Rattle.spec_leaves.specs.Answer.{Answer, number, place, result_of}
use Rattle.spec_leaves.specs.Rq.{rzero}
use Rattle.spec_leaves.specs.Challenge.{challenge}
use Rattle.spec_leaves.specs.Leaf.{sign_words}
use Rattle.api_leaf_answers.specs.declared.answers.Status.{Status}
use Rattle.api_leaf_answers.specs.declared.answers.WordAnswer.{WordAnswer}
use Rattle.api_leaf_answers.specs.declared.answers.CentreAnswer.{CentreAnswer}
use Rattle.api_leaf_answers.specs.declared.answers.DigitsAnswer.{DigitsAnswer}
use Rattle.api_leaf_answers.specs.declared.answers.ElementAnswer.{ElementAnswer}
use Rattle.api_leaf_answers.specs.declared.answers.NormAnswer.{NormAnswer}

-- no result
abbrev pub status_of : Answer → Status
status_of a = record { number = number a; place = place a }

-- a word
abbrev pub word_answer : Answer → ℕ → WordAnswer
word_answer a value = record { number = number a; place = place a; value = result_of a value 0 }

-- a centre
abbrev pub centre_answer : Answer → ℤ → CentreAnswer
centre_answer a value = record { number = number a; place = place a; value = result_of a value (pos 0) }

-- the digits of a number in 32 places, and the size left over
abbrev pub digits_answer : Answer → Decomposed → DigitsAnswer
digits_answer a d = record { number = number a; place = place a; digits = result_of a d.digits (replicate 32 0); left = result_of a d.left 0 }

-- an element
abbrev pub element_answer : Answer → List ℕ → ElementAnswer
element_answer a coeffs = record { number = number a; place = place a; coeffs = result_of a coeffs rzero }

-- a norm in two u64
abbrev pub norm_answer : Answer → ℕ → NormAnswer
norm_answer a norm = record { number = number a; place = place a; hi = result_of a norm 0 / 2 ^ 64; lo = result_of a norm 0 % 2 ^ 64 }

-- a challenge: "the 41 sign words coming first"
abbrev pub challenge_answer : List ℕ → ElementAnswer
challenge_answer words = element_answer (sign_words (take 41 words)) (challenge (take 41 words) (drop 41 words))
