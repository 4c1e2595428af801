-- Elements with few coefficients, all of size 1 or 2, as lists of places in which the terms of a product start.
use Rattle.std.specs.Prelude.{◌≡◌, cond, List, ℕ, ◌+◌, ◌-◌, ◌*◌, ◌%◌, ◌≤◌, ◌<◌, ltb, eqb, length, get_or}
use Rattle.math.specs.lists.Table.{table}
use Rattle.math.specs.lists.Sum.{Σ}
use Rattle.math.specs.lists.Part.{part}
use Rattle.spec_leaves.specs.Zq.{Q, Canonical, zneg, is_larger_than_half, size}
use Rattle.spec_leaves.specs.Rq.{coeff}

-- entry m of −a, a and −a, one after the other, and then of zeros
abbrev pub turned : List ℕ → ℕ → ℕ
turned a m = cond (ltb m 64) (zneg (coeff a m)) (cond (ltb m 128) (coeff a (m - 64)) (cond (ltb m 192) (zneg (coeff a (m - 128))) 0))

-- the same, and from 256 on twice that
unfoldable pub entry : List ℕ → ℕ → ℕ
entry a m = cond (ltb m 256) (turned a m) (2 * turned a (m - 256))

-- the place from which on these are the coefficients of v·X^j·a, where v is 0, ±1 or ±2
unfoldable pub place : ℕ → ℕ → ℕ
place v j = cond (eqb v 0) 192 (cond (is_larger_than_half v) 128 64 - j + cond (eqb (size v) 2) 256 0)

-- 1 for a coefficient that is not 0
abbrev pub taken : ℕ → ℕ
taken v = cond (eqb v 0) 0 1

-- an element whose coefficients are 0, ±1 and ±2, at most 41 of them not 0
pub record Sparse (a : List ℕ) : Type 0 where
  pub canonical : (j : ℕ) → j < 64 → Canonical (coeff a j)
  pub small : (j : ℕ) → j < 64 → size (coeff a j) ≤ 2
  pub few : Σ 64 (λ j. taken (coeff a j)) ≤ 41

-- r such elements one after the other from a place on
abbrev pub AllSparse : List ℕ → (at r : ℕ) → Type 0
AllSparse c at r = (i : ℕ) → i < r → Sparse (part c (at + 64 * i) 64)

-- a row has the places of a sparse element's terms, filled up to 42 with that of the zeros
pub record RowOf (row a : List ℕ) : Type 0 where
  pub below : (t : ℕ) → t < 42 → get_or row t 0 ≤ 384
  pub same : (f : ℕ → ℕ) → f 192 ≡ 0 → Σ 42 (λ t. f (get_or row t 0)) ≡ Σ 64 (λ j. f (place (coeff a j) j))

-- r rows of places, 42 in each and 64 words apart
pub record Places (powers : List ℕ) (r : ℕ) : Type 0 where
  pub room : 64 * r ≤ length powers
  pub below : (i t : ℕ) → i < r → t < 42 → get_or powers (64 * i + t) 0 ≤ 384

-- the rows are those of r sparse elements
pub record PowersOf (powers c : List ℕ) (at r : ℕ) : Type 0 where
  pub places : Places powers r
  pub sparse : AllSparse c at r
  pub rows : (i : ℕ) → i < r → RowOf (part powers (64 * i) 64) (part c (at + 64 * i) 64)

-- the product of an element with that of row i, not reduced
abbrev pub row_product : List ℕ → ℕ → List ℕ → List ℕ
row_product powers i a = table 64 (λ k. Σ 42 (λ t. entry a (get_or powers (64 * i + t) 0 + k)))

-- the sum of the products of r elements, a step apart, with those of the rows
unfoldable pub powers_product : (powers x : List ℕ) (x-at x-step r : ℕ) → List ℕ
powers_product powers x x-at x-step r = table 64 (λ k. Σ r (λ i. coeff (row_product powers i (part x (x-at + x-step * i) 64)) k) % Q)
