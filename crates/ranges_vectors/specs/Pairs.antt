-- What the tests of the pairs answer.
use Rattle.std.specs.Prelude.{Bool, ℕ, ltb, ℤ, nat_abs, Option, Some, None}
use Rattle.spec_leaves.specs.Zq.{half_Q}
use Rattle.spec_leaves.specs.Answer.{Answer, fine, refused}

-- whether a number is beyond the greatest centre
abbrev pub is_beyond : ℤ → Bool
is_beyond x = ltb half_Q (nat_abs x)

-- the refusal of the first pair found, where there is one
abbrev pub found : (number : ℕ) → Option ℕ → Answer
found number (Some place) = refused number place
found number None = fine
