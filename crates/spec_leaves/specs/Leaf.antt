-- What a leaf call finds of its operands (document 01, "Leaves").
use Rattle.std.specs.Prelude.{cond, List, ℕ, ltb}
use Rattle.spec_leaves.specs.Zq.{Q, top_Q}
use Rattle.spec_leaves.specs.Answer.{Answer, fine, refused, below, ◌then◌}

-- "A leaf call refuses a non-canonical word with 6 (place in its operands, in order)"
abbrev pub canonical_words : List ℕ → Answer
canonical_words ws = below Q 6 0 ws

-- a number from its least to its greatest value, else a refusal at its place
abbrev pub limited_by : (number least greatest place : ℕ) → ℕ → Answer
limited_by number least greatest place x = cond (ltb x least) (refused number place) (cond (ltb greatest x) (refused number place) fine)

-- a parameter from its least to its greatest value, else 4 at its place
abbrev pub limited : (least greatest place : ℕ) → ℕ → Answer
limited least greatest place x = limited_by 4 least greatest place x

-- "digits refuse first a base (place 0) or number of parts (place 1) outside limits with 4; the value starts at place 2"
abbrev pub digit_operands : ℕ → ℕ → List ℕ → Answer
digit_operands base parts ws = limited 2 top_Q 0 base then limited 1 32 1 parts then below Q 6 2 ws

-- "A challenge refuses a sign word above 1 with 8, the 41 sign words coming first."
abbrev pub sign_words : List ℕ → Answer
sign_words signs = below 2 8 0 signs
