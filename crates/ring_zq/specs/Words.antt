-- Words that are not reduced: what one lacks of Q, and one brought to Q at most.
use Rattle.std.specs.Prelude.{ℕ, ◌-◌, cond, nat_lt}
use Rattle.spec_leaves.specs.Zq.{Q}

-- Q less a word, or twice Q less it where it is above Q: a number up to Q, the word's negative modulo Q
abbrev pub lack : ℕ → ℕ
lack a = cond (nat_lt Q a) (Q - (a - Q)) (Q - a)

-- a word less Q where it is above Q: a number up to Q
abbrev pub lowered : ℕ → ℕ
lowered a = cond (nat_lt Q a) (a - Q) a
