-- Elements of constraints that stand one constraint after the other, weighed by numbers.
use Rattle.std.specs.Prelude.{List, ℕ, ◌+◌, ◌*◌, ◌≤◌, ◌^◌, length, get_or}
use Rattle.math.specs.lists.Table.{table}
use Rattle.spec_leaves.specs.Rq.{Element}
use Rattle.spec_leaves.specs.Ring.{scale}
use Rattle.ring_inner_product.specs.Run.{run}
use Rattle.spec_protocol.specs.Formulas.{flat, rows, ◌⊕◌, sum}

-- so many constraints of so many elements each lie within the slice
pub record Grid (words : List ℕ) (at width count : ℕ) : Type 0 where
  pub within : at + 64 * (width * count) ≤ length words
  pub narrow : width ≤ 2 ^ 18
  pub few : count ≤ 2 ^ 10

-- element c of the constraints: x ↦ that of constraint x
abbrev pub column : List ℕ → (at width c : ℕ) → ℕ → Element
column words at width c = run words (at + 64 * c) (64 * width)

-- element c weighed by the numbers of a row
unfoldable pub weighed : List ℕ → (at width count : ℕ) → List ℕ → ℕ → ℕ → Element
weighed words at width count numbers row c = sum count (λ x. scale (column words at width c x) (get_or numbers (row + x) 0))

-- element c of a region with the weighed element c added
abbrev pub added : List ℕ → ℕ → List ℕ → (at width count : ℕ) → List ℕ → ℕ → ℕ → Element
added region to words at width count numbers row c = run region to 64 c ⊕ weighed words at width count numbers row c

-- their words
abbrev pub added_words : List ℕ → ℕ → List ℕ → (at width count : ℕ) → List ℕ → ℕ → List ℕ
added_words region to words at width count numbers row = flat (table width (added region to words at width count numbers row))

-- the words of so many rows of a region, with the elements weighed by each row of the numbers added
abbrev pub added_rows : List ℕ → ℕ → List ℕ → (at width count : ℕ) → List ℕ → (row aggregations : ℕ) → List ℕ
added_rows region to words at width count numbers row aggregations =
    flat (rows aggregations width (λ k. added region (to + 64 * (k * width)) words at width count numbers (row + k * count)))
