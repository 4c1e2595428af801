-- The garbage polynomials h of vectors in slices.
use Rattle.std.specs.Prelude.{List, ℕ, ◌+◌, ◌*◌, ◌≤◌, ◌<◌, length}
use Rattle.spec_leaves.specs.Rq.{Element}
use Rattle.spec_protocol.specs.Formulas.{◌⊕◌, dot}
use Rattle.spec_protocol.specs.Parameters.{triangular}
use Rattle.ring_rq_matrix.specs.Region.{vector, Apart}

-- ⟨φ_i, s_j⟩ + ⟨φ_j, s_i⟩ of vectors of n elements
abbrev pub h_of : List ℕ → ℕ → List ℕ → ℕ → ℕ → ℕ → ℕ → Element
h_of φ φ-at s s-at n i j = dot n (vector φ φ-at n i) (vector s s-at n j) ⊕ dot n (vector φ φ-at n j) (vector s s-at n i)

-- vectors 0 to i of n elements lie within the slices, s and φ, and row i has room in the scratch apart from those of φ
abbrev pub RowFits : List ℕ → (s-at n i : ℕ) → List ℕ → (φ-at out_at : ℕ) → Type 0
RowFits s s-at n i scratch φ-at out_at =
    (s-at + 64 * ((i + 1) * n) ≤ length s)
    × (φ-at + 64 * ((i + 1) * n) ≤ length scratch)
    × (out_at + 64 * (i + 1) ≤ length scratch)
    × Apart φ-at (64 * ((i + 1) * n)) out_at (64 * (i + 1))
    × (i < 64)
    × (n ≤ 64)

-- the same of all rows of r vectors
abbrev pub TriangleFits : List ℕ → (s-at r n : ℕ) → List ℕ → (φ-at out_at : ℕ) → Type 0
TriangleFits s s-at r n scratch φ-at out_at =
    (s-at + 64 * (r * n) ≤ length s)
    × (φ-at + 64 * (r * n) ≤ length scratch)
    × (out_at + 64 * triangular r ≤ length scratch)
    × Apart φ-at (64 * (r * n)) out_at (64 * triangular r)
    × (r ≤ 64)
    × (n ≤ 64)
