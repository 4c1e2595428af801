-- Tests one after the other: the first that fails is the answer.
use Rattle.std.specs.Prelude.{ℕ, zero, suc}
use Rattle.spec_leaves.specs.Answer.{Answer, fine, ◌then◌}

-- fine where the fact holds, else the answer given
abbrev pub require {ℓ} : {A : Type ℓ} → Dec A → Answer → Answer
require (yes a) answer = fine
require (no n) answer = answer

-- the first of f 0, …, f (n − 1) that is not fine
unfoldable pub first : ℕ → (ℕ → Answer) → Answer
first zero f = fine
first (suc n) f = first n f then f n
