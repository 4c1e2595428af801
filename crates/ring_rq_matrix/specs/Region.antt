-- Vectors and triangles of elements in a slice, and a row of a sum over a symmetric matrix.
use Rattle.std.specs.Prelude.{◌⊎◌, List, ℕ, ◌+◌, ◌*◌, ◌≤◌}
use Rattle.spec_leaves.specs.Rq.{Element}
use Rattle.ring_inner_product.specs.Run.{run}
use Rattle.spec_protocol.specs.Views.{cell}
use Rattle.spec_protocol.specs.Formulas.{◌⊕◌, ◌⊗◌, dot}

-- element m of vector i, of vectors of n elements that stand one after the other
abbrev pub vector : List ℕ → ℕ → ℕ → ℕ → ℕ → Element
vector words at n i m = run words at 64 (i * n + m)

-- the inner product of vectors i and j
abbrev pub gram : List ℕ → ℕ → ℕ → ℕ → ℕ → Element
gram words at n i j = dot n (vector words at n i) (vector words at n j)

-- cell (i, j) of a triangle, mirrored above the diagonal
abbrev pub triangle_at : List ℕ → ℕ → ℕ → ℕ → Element
triangle_at words at i j = run words at 64 (cell i j)

-- row i of a sum over a symmetric matrix: each term left of the diagonal twice, and the diagonal's once
abbrev pub mirrored_row : ℕ → (ℕ → Element) → (ℕ → Element) → Element
mirrored_row i x y = dot i x y ⊕ dot i x y ⊕ x i ⊗ y i

-- two regions of a slice, given by their places and counts of words, have no word in common
abbrev pub Apart : ℕ → ℕ → ℕ → ℕ → Type 0
Apart at count place size = (at + count ≤ place) ⊎ (place + size ≤ at)
