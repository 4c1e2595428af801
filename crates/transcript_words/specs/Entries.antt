-- Values by the entry of a projection word.
use Rattle.std.specs.Prelude.{cond, ℕ, ltb}

-- the first value where the word's entry is −1, the second where it is 1, the third where it is 0
abbrev pub by_entry : ℕ → ℕ → ℕ → ℕ → ℕ
by_entry word a b c = cond (ltb word 1073741824) a (cond (ltb word 2147483648) b c)
