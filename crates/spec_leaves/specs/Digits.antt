-- The digit rule (document 01, "Leaves"). A size s in base b gives a remainder and the size that goes on; both are kept as sizes, the remainder's sign beside it.
use Rattle.std.specs.Prelude.{Bool, cond, List, ℕ, zero, suc, ◌+◌, ◌-◌, ◌/◌, ◌%◌, ltb}
use Rattle.std.specs.Bool.{xor}
use Rattle.math.specs.lists.Table.{table, padded}
use Rattle.spec_leaves.specs.declared.answers.Decomposed.{Decomposed}
use Rattle.spec_leaves.specs.Zq.{zneg, is_larger_than_half, size}

-- "less b if above b/2 rounded down": whether the remainder is below zero
abbrev pub rem_below : ℕ → ℕ → Bool
rem_below b s = ltb (b / 2) (s % b)

-- "rem = size mod b, less b if above b/2 rounded down": its size
abbrev pub rem_size : ℕ → ℕ → ℕ
rem_size b s = cond (rem_below b s) (b - s % b) (s % b)

-- "size becomes (size − rem)/b"
abbrev pub next_size : ℕ → ℕ → ℕ
next_size b s = cond (rem_below b s) (s / b + 1) (s / b)

-- the size after k digits. "stop at 0": from a size of 0 on, each digit is 0
unfoldable pub size_after : ℕ → ℕ → ℕ → ℕ
size_after b zero s = s
size_after b (suc k) s = next_size b (size_after b k s)

-- the canonical value with a sign and a size
abbrev pub signed : Bool → ℕ → ℕ
signed below n = cond below (zneg n) n

-- "the digit has the value's sign": digit k of the value a
unfoldable pub digit : ℕ → ℕ → ℕ → ℕ
digit b a k = signed (xor (is_larger_than_half a) (rem_below b (size_after b k (size a)))) (rem_size b (size_after b k (size a)))

-- the digits of a value, lowest first, in a number of parts
unfoldable pub digits : ℕ → ℕ → ℕ → List ℕ
digits b parts a = table parts (digit b a)

-- the digits in 32 places, those past the parts zero
unfoldable pub digit_places : ℕ → ℕ → ℕ → List ℕ
digit_places b parts a = padded 32 parts 0 (digit b a)

-- "What is left then is dropped.": the size left over after a number of parts
unfoldable pub leftover : ℕ → ℕ → ℕ → ℕ
leftover b parts a = size_after b parts (size a)

-- document 02, Item 5: "The digit rule is to return what it dropped, as the size left over, with its digits"
abbrev pub decomposed : ℕ → ℕ → ℕ → Decomposed
decomposed b parts a = record { digits = digit_places b parts a; left = leftover b parts a }

-- document 02, Item 9: "the whole rest with its sign": what goes on after digit 0
unfoldable pub rest : ℕ → ℕ → ℕ
rest b a = signed (is_larger_than_half a) (size_after b 1 (size a))
