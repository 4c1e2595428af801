-- Elements stored a step apart, and the inner products of the rows of a matrix with vectors that a slice holds in NTT form.
use Rattle.std.specs.Prelude.{List, ℕ, zero, suc, ◌+◌, ◌*◌, ◌≤◌, ◌<◌, ◌^◌, length}
use Rattle.math.specs.lists.Part.{splice}
use Rattle.spec_leaves.specs.Rq.{Element}
use Rattle.spec_leaves.specs.Ring.{words}
use Rattle.commitments_outer.specs.Cells.{commitments_of}
use Rattle.ntt_vectors.specs.NttForm.{ntt_words, ntt_dot}

-- f 0, …, f (n − 1) from a place on, a step apart
unfoldable pub spread : List ℕ → (at step : ℕ) → ℕ → (ℕ → Element) → List ℕ
spread slice at step zero f = slice
spread slice at step (suc n) f = splice (spread slice at step n f) (at + step * n) (words (f n))

-- the inner product of the vector i in NTT form with row k of a matrix
abbrev pub ntt_t : List ℕ → ℕ → List ℕ → (at n : ℕ) → ℕ → ℕ → Element
ntt_t matrix m-at slice at n i k = ntt_dot (ntt_words matrix (m-at + 64 * (k * n)) n) 0 slice (at + 192 * (i * n)) n

-- a slice into which the values of r vectors of n elements are stored, and then their commitments: "t_i = A·s_i"
abbrev pub with_t : List ℕ → List ℕ → (m-at width n : ℕ) → List ℕ → (s-at r at to : ℕ) → List ℕ
with_t slice matrix m-at width n s s-at r at to = splice (splice slice at (ntt_words s s-at (r * n))) to (commitments_of matrix m-at width n s s-at r)

-- the vectors in NTT form stand before the places of the elements, which lie within the slice
abbrev pub ColumnRoom : List ℕ → (n count at to step : ℕ) → Type 0
ColumnRoom slice n count at to step =
    (at + 192 * (count * n) ≤ to) × ((k : ℕ) → k < count → to + step * k + 64 ≤ length slice) × (step ≤ 2 ^ 40) × (n ≤ 64) × (count ≤ 64)

-- the vectors in NTT form stand before the rows, which lie within the slice
abbrev pub ColumnsRoom : List ℕ → (width n r at to : ℕ) → Type 0
ColumnsRoom slice width n r at to = (at + 192 * (r * n) ≤ to) × (to + 64 * (r * width) ≤ length slice) × (width ≤ 64) × (n ≤ 64) × (r ≤ 64)
