-- How far the product is finished, and the two forms in which its kernel takes the factors.
use Rattle.std.specs.Prelude.{◌≡◌, ℕ, ◌+◌, ◌-◌, ◌*◌, ◌/◌, ◌%◌, ◌^◌, ◌<◌, ◌≤◌, cond, List, length, nat_lt, slice_index}
use Rattle.math.specs.lists.Table.{table, padded}
use Rattle.math.specs.lists.Sum.{Σ}
use Rattle.spec_leaves.specs.Zq.{lack_Q}
use Rattle.ring_zq.specs.Words.{lack}
use Rattle.spec_leaves.specs.Rq.{coeff, rmul}

-- "those done are shown to be the product's and the later ones still zero" (document 02, Item 3): the first k coefficients of `out` are those of a·b
abbrev pub Finished : ℕ → List ℕ → List ℕ → List ℕ → Type 0
Finished k out a b = out ≡ padded 64 k 0 (coeff (rmul a b))

-- each entry of a list is below 2^32
abbrev pub AllWords : List ℕ → Type 0
AllWords l = (i : ℕ) → i < length l → slice_index l i < 2 ^ 32

-- entry m of the coefficients of −a, then those of a
abbrev pub extended_coeff : List ℕ → ℕ → ℕ
extended_coeff a m = cond (nat_lt m 64) (lack (coeff a m)) (coeff a (m - 64))

-- the coefficients of −a, then those of a
unfoldable pub extended : List ℕ → List ℕ
extended a = table 128 (extended_coeff a)

-- the coefficients from the last to the first
unfoldable pub reversed : List ℕ → List ℕ
reversed b = table 64 (λ i. coeff b (63 - i))

-- x and y are the forms of the factors a and b
abbrev pub Forms : List ℕ → List ℕ → List ℕ → List ℕ → Type 0
Forms x y a b = (x ≡ reversed b) × (y ≡ extended a) × ((i : ℕ) → i < 64 → coeff a i < 2 ^ 32)

-- the lower halves of 64 products, and the upper ones, each of which counts what Q lacks of 2^32, summed
unfoldable pub folded : List ℕ → List ℕ → ℕ → ℕ
folded x y at =
    Σ 64 (λ i. slice_index x i * slice_index y (at + i) % 4294967296)
    + Σ 64 (λ i. slice_index x i * slice_index y (at + i) / 4294967296) * lack_Q

-- what such a sum is at most: 2^38 and 2^38 times what Q lacks of 2^32
abbrev pub growth : ℕ
growth = 274877906944 + 274877906944 * lack_Q

-- what the upper halves' sum leaves of a sum modulo 2^64, and that sum
abbrev pub halves_sum : ℕ → ℕ → ℕ
halves_sum sum upper = (sum + (2 ^ 64 - upper % 4294967296 * 4294967296) + upper * lack_Q) % 2 ^ 64

-- sum' and upper' are a sum modulo 2^64 and a sum of upper halves, with the product of x and y added
unfoldable pub WithProduct : (sum upper x y sum' upper' : ℕ) → Type 0
WithProduct sum upper x y sum' upper' = (sum' ≡ (sum + x * y) % 2 ^ 64) × (upper' ≡ upper + x * y / 4294967296) × (upper' ≤ upper + 4294967296)
