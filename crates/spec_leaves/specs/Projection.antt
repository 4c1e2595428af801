-- The projection's entries (document 01, "Leaves").
use Rattle.std.specs.Prelude.{cond, ℕ, ltb}
use Rattle.spec_leaves.specs.Zq.{zneg}

-- "Projection word: below 1073741824 it stands for −1, from there below 2147483648 for 1, else 0."
abbrev pub entry : ℕ → ℕ
entry w = cond (ltb w 1073741824) (zneg 1) (cond (ltb w 2147483648) 1 0)
