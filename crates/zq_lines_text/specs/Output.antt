-- What the program writes for a whole input: an answer to each line, in order, each ended by a line feed.
use Rattle.std.specs.Prelude.{cond, List, [], ◌∷◌, ◌++◌, ℕ, eqb}
use Rattle.zq_lines_text.specs.Line.{answer_to}

-- what stands after the last line feed is a line where it has a byte
unfoldable pub last_line : List ℕ → List (List ℕ)
last_line [] = []
last_line (b ∷ bs) = (b ∷ bs) ∷ []

-- the lines of an input that goes on a line of which `begun` is read; each line feed ends one
unfoldable pub lines_after : List ℕ → List ℕ → List (List ℕ)
lines_after begun [] = last_line begun
lines_after begun (b ∷ bs) = cond (eqb b 10) (begun ∷ lines_after [] bs) (lines_after (begun ++ (b ∷ [])) bs)

-- an answer to each line, ended by a line feed
unfoldable pub answer_lines : List (List ℕ) → List ℕ
answer_lines [] = []
answer_lines (line ∷ lines) = answer_to line ++ (10 ∷ answer_lines lines)

-- all that is written for an input
abbrev pub output : List ℕ → List ℕ
output input = answer_lines (lines_after [] input)
