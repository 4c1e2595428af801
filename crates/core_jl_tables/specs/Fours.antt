-- The omega part of φ'' for four k at once, over the words of slices: a column's four sums stand side by side.
use Rattle.std.specs.Prelude.{◌≡◌, ℕ, zero, suc, ◌+◌, ◌*◌, ◌%◌, ◌<◌, List, slice_index}
use Rattle.math.specs.lists.Sum.{Σ}
use Rattle.math.specs.lists.Table.{table}
use Rattle.math.specs.lists.Part.{splice}
use Rattle.spec_leaves.specs.Zq.{Q}
use Rattle.spec_leaves.specs.Projection.{entry}
use Rattle.spec_leaves.specs.Rq.{Element}
use Rattle.spec_leaves.specs.Ring.{element, conj}
use Rattle.core_jl_tables.specs.Pairs.{biased}

-- the sums of `width` columns after the first rows, modulo Q: they are kept with 2^31 added
abbrev pub Summed : List ℕ → (pi om width rows : ℕ) → List ℕ → Type 0
Summed R pi om width rows sums =
    (c k : ℕ) → c < width → k < 4 → biased (slice_index sums (4 * c + k)) % Q ≡ Σ rows (λ j. entry (slice_index R (pi + j * width + c)) * slice_index R (om + k * 256 + j)) % Q

-- element m of the sums for k, conjugated
abbrev pub summed_element : List ℕ → (k m : ℕ) → Element
summed_element sums k m = conj (element (table 64 (λ w. biased (slice_index sums (256 * m + k + 4 * w)))))

-- runs of words stored `step` words apart
unfoldable pub spread : List ℕ → (at step count : ℕ) → (ℕ → List ℕ) → List ℕ
spread l at step zero f = l
spread l at step (suc q) f = splice (spread l at step q f) (at + q * step) (f q)
