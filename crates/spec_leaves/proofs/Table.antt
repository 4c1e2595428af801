-- Document 01, "Proved table": its thirteen rows, in its order, as one table under one proof against the definitions.
use mathlib.Core.Path.{◌≡◌, refl}
use mathlib.Core.Bool.{cond, xor}
use mathlib.Core.List.{List, [], ◌∷◌}
use Prim.Native.Nat.{ℕ, ◌+◌, ◌-◌}
use lib.Dec.{eqb}
use lib.ListN.{length}
use lib.IntN.{pos, neg_ℤ}
use Rattle.math.specs.lists.Table.{table}
use Rattle.math.specs.lists.Sum.{Σ}
use Rattle.spec_leaves.specs.Zq.{Q, zadd, zmul, centre}
use Rattle.spec_leaves.specs.Digits.{digits, digit, size_after}
use Rattle.spec_leaves.specs.Rq.{rmul, rconj, low, high}
use Rattle.spec_leaves.specs.Challenge.{shuffle, swaps}
use Rattle.spec_leaves.specs.Projection.{entry}

-- a row: what the definitions give, and what document 01 says
pub record Row : Type 1 where
  pub kind : Type 0
  pub given : kind
  pub said : kind

infix 5 ◌is◌
-- the row of what is given and what is said
abbrev pub ◌is◌ : {A : Type 0} → A → A → Row
◌is◌ {A} x y = record { kind = A; given = x; said = y }

-- each row of a table holds
abbrev pub Holds : List Row → Type 0
Holds [] = Unit {0}
Holds (r ∷ rs) = (r.given ≡ r.said) × Holds rs

-- the canonical value of −n, for n from 1 to Q − 1
abbrev pub minus : ℕ → ℕ
minus n = Q - n

infix 6 ◌X^◌
-- c·X^k
abbrev pub ◌X^◌ : ℕ → ℕ → List ℕ
c X^ k = table 64 (λ i. cond (eqb i k) c 0)

-- the places 0 to 63 in order
abbrev pub places : List ℕ
places = table 64 (λ i. i)

-- the thirteen rows
abbrev pub rows : List Row
rows =
    -- "4294967294+1=0"
    (zadd 4294967294 1 is 0)
    -- "65536·65536=1"
    ∷ (zmul 65536 65536 is 1)
    -- "65537·65535=0"
    ∷ (zmul 65537 65535 is 0)
    -- "centres of 2147483647, 2147483648, 4294967294 are 2147483647, −2147483647, −1"
    ∷ ((centre 2147483647 ∷ centre 2147483648 ∷ centre 4294967294 ∷ []) is (pos 2147483647 ∷ neg_ℤ (pos 2147483647) ∷ neg_ℤ (pos 1) ∷ []))
    -- "digits of 7, base 4: two give −1, 2, one gives −1" (base, parts, value)
    ∷ ((digits 4 2 7 ∷ digits 4 1 7 ∷ []) is ((minus 1 ∷ 2 ∷ []) ∷ (minus 1 ∷ []) ∷ []))
    -- "of 4294967288: 1, −2"
    ∷ (digits 4 2 4294967288 is (1 ∷ minus 2 ∷ []))
    -- "of 6, base 10: −4, 1, of 5: 5, 0"
    ∷ ((digits 10 2 6 ∷ digits 10 2 5 ∷ []) is ((minus 4 ∷ 1 ∷ []) ∷ (5 ∷ 0 ∷ []) ∷ []))
    -- "X^63·X=−1"
    ∷ (rmul (1 X^ 63) (1 X^ 1) is minus 1 X^ 0)
    -- "conj(X)=−X^63"
    ∷ (rconj (1 X^ 1) is minus 1 X^ 63)
    -- "shuffle words 63 down to 1 move nothing"
    ∷ (shuffle (table 63 (λ k. 63 - k)) places is places)
    -- "all zero: place i takes i+1, place 63 takes 0"
    ∷ (shuffle (table 63 (λ k. 0)) places is table 64 (λ i. cond (eqb i 63) 0 (i + 1)))
    -- "word 1073741823 gives −1, 1073741824 gives 1"
    ∷ ((entry 1073741823 ∷ entry 1073741824 ∷ []) is (minus 1 ∷ 1 ∷ []))
    -- "2147483648 gives 0"
    ∷ (entry 2147483648 is 0)
    ∷ []

-- the table has thirteen rows
pub thirteen : length rows ≡ 13
thirteen = refl

-- each row of the table holds
pub proved-table : Holds rows
unfolding table Σ digits digit size_after rmul low high rconj shuffle swaps xor
proved-table = (refl, (refl, (refl, (refl, (refl, (refl, (refl, (refl, (refl, (refl, (refl, (refl, (refl, tt)))))))))))))
