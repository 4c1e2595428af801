-- Reading byte by byte: what is kept of a line that has begun, and what a run of bytes has written.
-- proofs/Chunks ties it to Output: the runs of an input, however it is cut, and its end have written the output.
use Rattle.std.specs.Prelude.{Bool, false, cond, List, [], ◌∷◌, ◌++◌, ℕ, ◌+◌, ◌-◌, ◌*◌, ◌^◌, ◌<◌, ◌≤◌, ltb, eqb, Option, Some, None}
use Rattle.spec_leaves.specs.Zq.{Canonical}
use Rattle.zq_lines_text.specs.Text.{is_digit}
use Rattle.zq_lines_text.specs.Line.{pair, text}
use Rattle.zq_lines_text.specs.declared.reading.Word.{Word}
use Rattle.zq_lines_text.specs.declared.reading.State.{State}
use Rattle.zq_lines_text.specs.declared.reading.State.TheVariants.{First, Second, Bad}

-- no digit yet
abbrev pub none : Word
none = record { value = 0; digits = 0 }

-- a word with one more digit
abbrev pub pushed : Word → ℕ → Word
pushed w b = record { value = w.value * 10 + (b - 48); digits = w.digits + 1 }

-- the state in which a line begins
abbrev pub start : State
start = First none

-- a word with one more byte; none where the byte is no digit, or an eleventh
abbrev pub extended : Word → ℕ → Option Word
extended w b = cond (is_digit b) (cond (ltb w.digits 10) (Some (pushed w b)) None) None

-- a byte that extends no word spoils the line
abbrev pub with : (Word → State) → Option Word → State
with go (Some w) = go w
with go None = Bad

-- a line with one more byte
unfoldable pub stepped : State → ℕ → State
stepped (First w) b = cond (eqb b 32) (cond (eqb w.digits 0) Bad (Second w.value none)) (with First (extended w b))
stepped (Second a w) b = with (Second a) (extended w b)
stepped Bad b = Bad

-- a line with more bytes
unfoldable pub steps : State → List ℕ → State
steps s [] = s
steps s (b ∷ bs) = steps (stepped s b) bs

-- what a whole line stands for
unfoldable pub parsed : State → Option (ℕ × ℕ)
parsed (First w) = None
parsed (Second a w) = cond (eqb w.digits 0) None (pair a w.value)
parsed Bad = None

-- the answer to a whole line, ended by a line feed
abbrev pub answer_of : State → List ℕ
answer_of s = text (parsed s) ++ (10 ∷ [])

-- the state after a byte of the input
abbrev pub next : State → ℕ → State
next s b = cond (eqb b 10) start (stepped s b)

-- what a byte of the input has written
abbrev pub written : State → ℕ → List ℕ
written s b = cond (eqb b 10) (answer_of s) []

-- the state after a run of bytes of the input
unfoldable pub after : State → List ℕ → State
after s [] = s
after s (b ∷ bs) = after (next s b) bs

-- what a run of bytes of the input has written
unfoldable pub answers : State → List ℕ → List ℕ
answers s [] = []
answers s (b ∷ bs) = written s b ++ answers (next s b) bs

-- no byte of the line is read
abbrev pub is_fresh : State → Bool
is_fresh (First w) = eqb w.digits 0
is_fresh (Second a w) = false
is_fresh Bad = false

-- what the end of the input has written
abbrev pub last : State → List ℕ
last s = cond (is_fresh s) [] (answer_of s)

-- a word's value is below the power of ten that its digits allow, of which there are at most ten
pub record Small (w : Word) : Type 0 where
  pub few : w.digits ≤ 10
  pub below : w.value < 10 ^ w.digits

-- the words of a state are small
abbrev pub Bounded : State → Type 0
Bounded (First w) = Small w
Bounded (Second a w) = Small w
Bounded Bad = Unit {0}

-- the first number of a pair, which has a centre, is canonical
abbrev pub FirstCanonical : Option (ℕ × ℕ) → Type 0
FirstCanonical (Some (a, b)) = Canonical a
FirstCanonical None = Unit {0}
