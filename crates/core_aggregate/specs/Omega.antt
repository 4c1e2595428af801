-- The omega part of φ'' of all vectors over the words of slices. The vectors' matrices start at the place `pi` of the randomness, the omega of k = 0 at `om`.
use Rattle.std.specs.Prelude.{List, ℕ, ◌+◌, ◌*◌, ◌≤◌, length}
use Rattle.math.specs.lists.Table.{cat}
use Rattle.spec_leaves.specs.Rq.{Element}
use Rattle.core_jl_transpose.specs.Omega.{omega_element}
use Rattle.spec_protocol.specs.Formulas.{flat, rows}

-- the matrices of r vectors of n elements, and so many words of omega, lie within the randomness, and so many elements have room
abbrev pub Projected : List ℕ → (pi r n om weights : ℕ) → List ℕ → (to elements : ℕ) → Type 0
Projected randomness pi r n om weights out to elements =
    (pi + r * 256 * (64 * n) ≤ length randomness) × (om + weights ≤ length randomness) × (to + 64 * elements ≤ length out) × (r ≤ 64) × (n ≤ 64)

-- the omega part of the r vectors by the omega at a place
abbrev pub omega_vectors : List ℕ → (pi om r n : ℕ) → List Element
omega_vectors randomness pi om r n = rows r n (λ i. omega_element randomness (pi + i * 256 * (64 * n)) om n)

-- the omega part of the r vectors for k
abbrev pub omega_rows : List ℕ → (pi om r n : ℕ) → ℕ → List Element
omega_rows randomness pi om r n k = omega_vectors randomness pi (om + k * 256) r n

-- the words of the omega part for so many k, one after the other
abbrev pub omega_regions : List ℕ → (pi om r n aggregations : ℕ) → List ℕ
omega_regions randomness pi om r n aggregations = flat (cat aggregations (omega_rows randomness pi om r n))
