-- The inner products of all pairs of vectors φ_i, and of vectors s_j that a slice holds in NTT form.
use Rattle.std.specs.Prelude.{List, ℕ, ◌+◌, ◌*◌, ◌≤◌, length}
use Rattle.math.specs.lists.Part.{splice}
use Rattle.spec_leaves.specs.Rq.{Element}
use Rattle.spec_protocol.specs.Parameters.{triangular}
use Rattle.spec_protocol.specs.Formulas.{◌⊕◌, dot, flat, rows, triangle}
use Rattle.ring_rq_matrix.specs.Region.{vector}
use Rattle.core_garbage_polynomials.specs.Garbage.{h_of}
use Rattle.ntt_vectors.specs.NttForm.{ntt_words, ntt_row}

-- the inner product of vector i from a place on with the vector j in NTT form
abbrev pub ntt_line : List ℕ → (φ-at at n : ℕ) → ℕ → ℕ → Element
ntt_line slice φ-at at n i = ntt_row (ntt_words slice (φ-at + 64 * (i * n)) n) slice at n

-- cell (i, j) of a square and its mirror image together
abbrev pub both_ways : List ℕ → (at r : ℕ) → ℕ → ℕ → Element
both_ways slice at r i j = vector slice at r i j ⊕ vector slice at r j i

-- a slice into which the values of r vectors of n elements are stored, and then the square of their inner products with its own
unfoldable pub lines_of : List ℕ → ℕ → List ℕ → (s-at r n at square : ℕ) → List ℕ
lines_of slice φ-at s s-at r n at square =
    splice (splice slice at (ntt_words s s-at (r * n))) square (flat (rows r r (λ i j. dot n (vector slice φ-at n i) (vector s s-at n j))))

-- and then h
abbrev pub with_h : List ℕ → ℕ → List ℕ → (s-at r n at square to : ℕ) → List ℕ
with_h slice φ-at s s-at r n at square to = splice (lines_of slice φ-at s s-at r n at square) to (flat (triangle r (h_of slice φ-at s s-at n)))

-- the vectors in NTT form, the row, and the vector that is transformed follow one another, and the buffer has room for it
abbrev pub LineRoom : List ℕ → (φ-at n count : ℕ) → List ℕ → (at to : ℕ) → Type 0
LineRoom slice φ-at n count buffer at to =
    (at + 192 * (count * n) ≤ to) × (to + 64 * count ≤ φ-at) × (φ-at + 64 * n ≤ length slice) × (192 * n ≤ length buffer) × (n ≤ 64) × (count ≤ 64)

-- the vectors in NTT form, the square, and the vectors that are transformed follow one another
abbrev pub LinesRoom : List ℕ → (φ-at r n at to : ℕ) → Type 0
LinesRoom slice φ-at r n at to = (at + 192 * (r * n) ≤ to) × (to + 64 * (r * r) ≤ φ-at) × (φ-at + 64 * (r * n) ≤ length slice) × (n ≤ 64) × (r ≤ 64)

-- so many cells have room behind the square
abbrev pub HalvesRoom : List ℕ → (at r count to : ℕ) → Type 0
HalvesRoom slice at r count to = (at + 64 * (r * r) ≤ to) × (to + 64 * count ≤ length slice) × (r ≤ 64)

-- the vectors in NTT form, the square, the vectors φ and h follow one another
abbrev pub HRoom : List ℕ → (r n at square φ-at to : ℕ) → Type 0
HRoom slice r n at square φ-at to =
    (at + 192 * (r * n) ≤ square) × (square + 64 * (r * r) ≤ φ-at) × (φ-at + 64 * (r * n) ≤ to) × (to + 64 * triangular r ≤ length slice) × (n ≤ 64) × (r ≤ 64)
