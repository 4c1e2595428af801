-- Ring elements (document 01, "What a call is handed" and "Leaves"): lists of words, coefficient of X^0 first.
use Rattle.std.specs.Prelude.{◌≡◌, Bool, cond, ℕ, ◌+◌, ◌-◌, ◌*◌, ◌<◌, eqb, length, get_or}
use Rattle.std.proofs.Math.Bool.{decide}
use mathlib.Core.List.{List, List-discrete}
use Rattle.std.proofs.Math.Decide.{ℕ_discrete}
use Rattle.math.specs.lists.Table.{table, padded}
use Rattle.math.specs.lists.Sum.{Σ}
use Rattle.spec_leaves.specs.Zq.{Canonical, zadd, zsub, zneg, zmul}
use Rattle.spec_leaves.specs.Digits.{digit, leftover, rest}

-- the coefficient of X^k
abbrev pub coeff : List ℕ → ℕ → ℕ
coeff a k = get_or a k 0

-- each word of a list is canonical
abbrev pub AllCanonical : List ℕ → Type 0
AllCanonical a = (k : ℕ) → k < length a → Canonical (get_or a k 0)

-- "A ring element is 64 words, coefficient of X^0 first", each canonical
abbrev pub Element : Type 0
Element = (a : List ℕ) × ((length a ≡ 64) × AllCanonical a)

-- 0
unfoldable pub rzero : List ℕ
rzero = table 64 (λ k. 0)

-- whether all 64 words are 0
unfoldable pub is_zero : List ℕ → Bool
is_zero a = decide (List-discrete ℕ_discrete a rzero)

-- the sum of two elements
unfoldable pub radd : List ℕ → List ℕ → List ℕ
radd a b = table 64 (λ k. zadd (coeff a k) (coeff b k))

-- the difference of two elements
unfoldable pub rsub : List ℕ → List ℕ → List ℕ
rsub a b = table 64 (λ k. zsub (coeff a k) (coeff b k))

-- the sum of a_i · b_j over i + j = k
unfoldable pub low : List ℕ → List ℕ → ℕ → ℕ
low a b k = Σ (k + 1) (λ i. coeff a i * coeff b (k - i))

-- the sum of a_i · b_j over i + j = k + 64
unfoldable pub high : List ℕ → List ℕ → ℕ → ℕ
high a b k = Σ (63 - k) (λ i. coeff a (k + 1 + i) * coeff b (63 - i))

-- "X^64 = −1": the product of two elements
unfoldable pub rmul : List ℕ → List ℕ → List ℕ
rmul a b = table 64 (λ k. zsub (low a b k) (high a b k))

-- the product of an element with a number
unfoldable pub rscale : List ℕ → ℕ → List ℕ
rscale a c = table 64 (λ k. zmul (coeff a k) c)

-- "Conj keeps coefficient 0 and puts minus coefficient 64−i at i.": coefficient i
abbrev pub conj_coeff : List ℕ → ℕ → ℕ
conj_coeff a i = cond (eqb i 0) (coeff a 0) (zneg (coeff a (64 - i)))

-- the conjugate of an element
unfoldable pub rconj : List ℕ → List ℕ
rconj a = table 64 (conj_coeff a)

-- row k of an element's digits: digit k of each coefficient
unfoldable pub digit_row : ℕ → List ℕ → ℕ → List ℕ
digit_row b a k = table 64 (λ j. digit b (coeff a j) k)

-- document 02, Item 5: "for one element a call beside it gives the 64 sizes" left over after a number of parts
unfoldable pub left_row : ℕ → ℕ → List ℕ → List ℕ
left_row b parts a = table 64 (λ j. leftover b parts (coeff a j))

-- the rest of each coefficient after its digit 0
unfoldable pub rest_row : ℕ → List ℕ → List ℕ
rest_row b a = table 64 (λ j. rest b (coeff a j))

-- "the digits of one element are 32 rows of 64, rows past the parts zero"
unfoldable pub digit_rows : ℕ → ℕ → List ℕ → List (List ℕ)
digit_rows b parts a = padded 32 parts rzero (digit_row b a)
