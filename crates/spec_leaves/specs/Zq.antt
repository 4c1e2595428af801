-- Numbers modulo Q (document 01, "Leaves").
use Rattle.std.specs.Prelude.{Bool, cond, ℕ, ◌+◌, ◌-◌, ◌*◌, ◌/◌, ◌%◌, ◌<◌, ltb, ℤ, pos, ◌-ℤ◌}

-- the modulus: "Q = 4294967295, which is composite" is document 01's; `src/modulus.rt` has the same number, and `proofs/Suited.antt` says what another must meet
abbrev pub Q : ℕ
Q = 4294967295

-- the greatest canonical value
abbrev pub top_Q : ℕ
top_Q = Q - 1

-- what Q lacks of 2^32: 2^32 is that modulo Q
abbrev pub lack_Q : ℕ
lack_Q = 4294967296 - Q

-- "canonical values are 0 to Q−1"
abbrev pub Canonical : ℕ → Type 0
Canonical a = a < Q

-- the sum modulo Q
abbrev pub zadd : ℕ → ℕ → ℕ
zadd a b = (a + b) % Q

-- the difference modulo Q
abbrev pub zsub : ℕ → ℕ → ℕ
zsub a b = (a + (Q - b % Q)) % Q

-- the negative modulo Q
abbrev pub zneg : ℕ → ℕ
zneg a = (Q - a % Q) % Q

-- the product modulo Q
abbrev pub zmul : ℕ → ℕ → ℕ
zmul a b = (a * b) % Q

-- the greatest size of a centre
abbrev pub half_Q : ℕ
half_Q = Q / 2

-- "Above" half_Q, 2147483647 in document 01, "a value centres to itself less Q": whether it does
abbrev pub is_larger_than_half : ℕ → Bool
is_larger_than_half a = ltb half_Q a

-- the centre of a canonical value
abbrev pub centre : ℕ → ℤ
centre a = cond (is_larger_than_half a) (pos a -ℤ pos Q) (pos a)

-- the size of the centre
abbrev pub size : ℕ → ℕ
size a = cond (is_larger_than_half a) (Q - a) a
