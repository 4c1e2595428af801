-- The answer to one line (document 01, "Proved table", last paragraph). A line is the list of its bytes, without the line feed.
use Rattle.std.specs.Prelude.{Bool, cond, ◌&&◌, List, [], ◌∷◌, ◌++◌, ℕ, leb, ltb, eqb, length, Option, Some, None}
use Rattle.spec_leaves.specs.Zq.{Q, zadd, zmul, centre}
use Rattle.zq_lines_text.specs.Text.{all_digits, value, decimal, signed}

-- what stands before the first space
unfoldable pub before_space : List ℕ → List ℕ
before_space [] = []
before_space (b ∷ bs) = cond (eqb b 32) [] (b ∷ before_space bs)

-- what stands after the first space; nothing where there is none
unfoldable pub after_space : List ℕ → List ℕ
after_space [] = []
after_space (b ∷ bs) = cond (eqb b 32) bs (after_space bs)

-- from one to ten
abbrev pub one_to_ten : ℕ → Bool
one_to_ten n = leb 1 n && leb n 10

-- "decimal words, each of one to ten digits"
abbrev pub is_word : List ℕ → Bool
is_word w = one_to_ten (length w) && all_digits w

-- "`refused` for a word at or above Q": none
abbrev pub pair : ℕ → ℕ → Option (ℕ × ℕ)
pair a b = cond (ltb a Q) (cond (ltb b Q) (Some (a, b)) None) None

-- "two decimal words, each of one to ten digits, one space between and nothing else"; "`refused` … for any other line": none
unfoldable pub parse : List ℕ → Option (ℕ × ℕ)
parse line = cond (is_word (before_space line)) (cond (is_word (after_space line)) (pair (value (before_space line)) (value (after_space line))) None) None

infixl 25 ◌␣◌
-- two texts, "one space apart"
abbrev pub ◌␣◌ : List ℕ → List ℕ → List ℕ
a ␣ b = a ++ (32 ∷ b)

-- "prints both, sum, product and the first one's centre"; "`refused`"
unfoldable pub text : Option (ℕ × ℕ) → List ℕ
text (Some (a, b)) = decimal a ␣ decimal b ␣ decimal (zadd a b) ␣ decimal (zmul a b) ␣ signed (centre a)
text None = 114 ∷ 101 ∷ 102 ∷ 117 ∷ 115 ∷ 101 ∷ 100 ∷ []

-- the answer to a line
abbrev pub answer_to : List ℕ → List ℕ
answer_to line = text (parse line)
