-- The digits of an element as rows and as words of a lent slice.
use Rattle.std.specs.Prelude.{cond, List, [], ℕ, ltb, length, get_or, replicate}
use Rattle.math.specs.lists.Table.{cat}
use Rattle.math.specs.lists.Part.{splice}
use Rattle.spec_leaves.specs.Answer.{Answer, fine, refused, result_of, ◌then◌}
use Rattle.spec_leaves.specs.Rq.{rzero, digit_rows}
use Rattle.spec_leaves.specs.Leaf.{digit_operands}

-- "32 rows of 64, rows past the parts zero, all zero on refusal"
abbrev pub rows_or_zero : ℕ → ℕ → List ℕ → List (List ℕ)
rows_or_zero base parts a = result_of (digit_operands base parts a) (digit_rows base parts a) (replicate 32 rzero)

-- the words of 32 rows, row after row
abbrev pub row_words : List (List ℕ) → List ℕ
row_words rows = cat 32 (λ k. get_or rows k [])

-- a slice of fewer than 2048 words is refused with 2, the length needed being the place
abbrev pub room_for2048 : ℕ → Answer
room_for2048 n = cond (ltb n 2048) (refused 2 2048) fine

-- what is found of the operands, then of the slice's length
abbrev pub words_found : (base parts : ℕ) → List ℕ → (length : ℕ) → Answer
words_found base parts a n = digit_operands base parts a then room_for2048 n

-- the slice at the end: its first 2048 words are the rows', and those beyond are as they were; one that is too short is as it was
abbrev pub words_written : (base parts : ℕ) → List ℕ → List ℕ → List ℕ
words_written base parts a out = cond (ltb (length out) 2048) out (splice out 0 (row_words (rows_or_zero base parts a)))
