-- The omega part of φ'' over the words of slices.
use Rattle.std.specs.Prelude.{ℕ, zero, suc, ◌+◌, ◌-◌, ◌*◌, ◌^◌, cond, List, nat_lt, slice_index}
use Rattle.math.specs.lists.Table.{table}
use Rattle.math.specs.algebra.Ops.{sum}
use Rattle.spec_leaves.specs.Zq.{Q}
use Rattle.spec_leaves.specs.Projection.{entry}
use Rattle.spec_leaves.specs.Rq.{Element}
use Rattle.spec_leaves.specs.Ring.{RqOps, element, scale, conj}
use Rattle.ring_zq.specs.Words.{lowered}
use Rattle.core_jl.specs.Rows.{term}

-- element m of the row of projection words from a place on
abbrev pub row_element : List ℕ → ℕ → ℕ → Element
row_element R at m = element (table 64 (λ q. entry (slice_index R (at + (64 * m + q)))))

-- element m of Σ omega[j]·conj(row j): the 256 rows of n elements start at the place `pi` of R, and omega at the place `om`
unfoldable pub omega_element : List ℕ → ℕ → ℕ → ℕ → ℕ → Element
omega_element R pi om n m = sum RqOps 256 (λ j. scale (conj (row_element R (pi + j * (64 * n)) m)) (slice_index R (om + j)))

-- the sum of a word and a lowered one, less Q where it passes 32 bits
abbrev pub carried : ℕ → ℕ → ℕ
carried a b = cond (nat_lt (a + lowered b) (2 ^ 32)) (a + lowered b) (a + lowered b - Q)

-- the `width` sums from a place on with a row's entries times a value added
abbrev pub row_sums : List ℕ → (row value : ℕ) → List ℕ → (at width : ℕ) → List ℕ
row_sums R row value sums at width = table width (λ c. carried (slice_index sums (at + c)) (term (slice_index R (row + c)) value))

-- the sum of column c after the first rows are added to x
unfoldable pub added : List ℕ → ℕ → ℕ → ℕ → ℕ → ℕ → ℕ → ℕ
added R pi om width x c zero = x
added R pi om width x c (suc j) = carried (added R pi om width x c j) (term (slice_index R (pi + j * width + c)) (slice_index R (om + j)))

-- the `width` sums from a place on with the 256 rows, each times its omega, added
abbrev pub rows_sums : List ℕ → (pi om : ℕ) → List ℕ → (at width : ℕ) → List ℕ
rows_sums R pi om sums at width = table width (λ c. added R pi om width (slice_index sums (at + c)) c 256)
