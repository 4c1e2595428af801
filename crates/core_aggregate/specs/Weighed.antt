-- The two aggregations over the words of slices: psi and omega, alpha and beta.
use Rattle.std.specs.Prelude.{◌≡◌, List, ℕ, ◌+◌, ◌*◌, ◌≤◌, length}
use Rattle.math.specs.lists.Table.{table, cat}
use Rattle.spec_leaves.specs.Rq.{Element}
use Rattle.ring_inner_product.specs.declared.Strided.{Strided}
use Rattle.ring_inner_product.specs.Run.{Run, run, strided, Within, further}
use Rattle.core_jl_transpose.specs.Omega.{omega_element}
use Rattle.spec_protocol.specs.Parameters.{triangular}
use Rattle.spec_protocol.specs.Views.{element_at, cell}
use Rattle.spec_protocol.specs.Formulas.{flat, rows, ◌⊕◌, ◌⊗◌, dot, pairs}
use Rattle.core_aggregate_psi.specs.Grid.{Grid, weighed}

-- the words of the elements weighed by each of so many rows of the numbers
abbrev pub weighed_words : List ℕ → (at width count : ℕ) → List ℕ → (row aggregations : ℕ) → List ℕ
weighed_words words at width count numbers row aggregations = flat (rows aggregations width (λ k. weighed words at width count numbers (row + k * count)))

-- element m of vector i of the omega part and the psi part together, for one row of psi and of omega
unfoldable pub both : List ℕ → (at r n count : ℕ) → List ℕ → (pi psi om : ℕ) → ℕ → ℕ → Element
both job at r n count randomness pi psi om i m = omega_element randomness (pi + i * 256 * (64 * n)) om n m ⊕ weighed job at (r * n) count randomness psi (i * n + m)

-- a run's elements weighed by elements alpha, and another's weighed by elements beta, together
unfoldable pub mixed : List ℕ → Strided → List ℕ → (alpha beta : ℕ) → List ℕ → Strided → Element
mixed job constraints weights alpha beta source aggregated =
    dot constraints.count (run weights alpha 64) (strided job constraints) ⊕ dot aggregated.count (run weights beta 64) (strided source aggregated)

-- Σ a_ij·g_ij over all pairs, of two triangles of r rows, and Σ ⟨φ_i, s_i⟩ of r vectors of n elements, together
unfoldable pub formed : List ℕ → (a g φ r n : ℕ) → List ℕ → ℕ → Element
formed words a g φ r n witness s =
    pairs r (λ i j. element_at words a (cell i j) ⊗ element_at words g (cell i j)) ⊕ dot (r * n) (element_at words φ) (element_at witness s)

-- two triangles of r rows and r vectors of n elements lie within the slice, and as many vectors in the witness
pub record Formed (words : List ℕ) (a g φ r n : ℕ) (witness : List ℕ) (s : ℕ) : Type 0 where
  pub squares : a + 64 * triangular r ≤ length words
  pub products : g + 64 * triangular r ≤ length words
  pub lines : φ + 64 * (r * n) ≤ length words
  pub vectors : s + 64 * (r * n) ≤ length witness
  pub few : r ≤ 64
  pub narrow : n ≤ 64

-- the words of φ'' of the r vectors for so many k
abbrev pub φ''_words : List ℕ → (at r n count : ℕ) → List ℕ → (pi psi om aggregations : ℕ) → List ℕ
φ''_words job at r n count randomness pi psi om aggregations =
    flat (cat aggregations (λ k. rows r n (both job at r n count randomness pi (psi + k * count) (om + k * 256))))

-- the vectors of so many constraints, the matrices, psi and omega of so many k lie within the slices, and φ'' has room
abbrev pub Parts : List ℕ → (at r n count : ℕ) → List ℕ → (pi psi om aggregations : ℕ) → List ℕ → ℕ → Type 0
Parts job at r n count randomness pi psi om aggregations out to =
    Grid job at (r * n) count
    × (pi + r * 256 * (64 * n) ≤ length randomness)
    × (psi + aggregations * count ≤ length randomness)
    × (om + aggregations * 256 ≤ length randomness)
    × (to + 64 * (aggregations * (r * n)) ≤ length out)
    × (r ≤ 64)
    × (n ≤ 64)

-- the words of b'' of so many k: a'' and φ'' stand one k after the other
abbrev pub b''_words : List ℕ → (a g φ r n : ℕ) → List ℕ → (s count : ℕ) → List ℕ
b''_words words a g φ r n witness s count = flat (table count (λ k. formed words (a + 64 * (k * triangular r)) g (φ + 64 * (k * (r * n))) r n witness s))

-- the triangles a'' of so many k, the triangle g and the vectors φ'' of so many k end before a place, after which b'' has room
abbrev pub FormedRows : List ℕ → (a g φ r n : ℕ) → List ℕ → (s count to : ℕ) → Type 0
FormedRows words a g φ r n witness s count to =
    (a + 64 * (count * triangular r) ≤ to)
    × (g + 64 * triangular r ≤ to)
    × (φ + 64 * (count * (r * n)) ≤ to)
    × (to + 64 * count ≤ length words)
    × (s + 64 * (r * n) ≤ length witness)
    × (r ≤ 64)
    × (n ≤ 64)

-- a run of constraints' elements and one of aggregated ones, with their weights, lie within the slices
abbrev pub Mixable : List ℕ → Strided → List ℕ → (alpha beta : ℕ) → List ℕ → Strided → Type 0
Mixable job constraints weights alpha beta source aggregated =
    Within job constraints × Run weights alpha 64 constraints.count × Run weights beta 64 aggregated.count × Within source aggregated

-- the run of the first elements of so many rows, of `width` elements each, that stand one after the other from a place on
abbrev pub rows_at : (at width count : ℕ) → Strided
rows_at at width count = record { at = at; step = 64 * width; count = count }

-- a run is that of the first elements of rows, of `width` elements each, that stand one after the other, and the rows lie within the slice
abbrev pub Rows : List ℕ → Strided → ℕ → Type 0
Rows words x width = Grid words x.at width x.count × (x.step ≡ 64 * width)

-- the words of `width` elements mixed, each of the runs of the rows' elements
abbrev pub mixed_words : List ℕ → Strided → List ℕ → (alpha beta : ℕ) → List ℕ → Strided → ℕ → List ℕ
mixed_words job constraints weights alpha beta source aggregated width =
    flat (table width (λ c. mixed job (further constraints c) weights alpha beta source (further aggregated c)))

-- the rows of the constraints and their weights lie within the slices; so do the aggregated ones in the scratch, and after them the result has room
abbrev pub Aggregates : List ℕ → Strided → List ℕ → (alpha beta : ℕ) → List ℕ → Strided → (width to : ℕ) → Type 0
Aggregates job constraints weights alpha beta scratch aggregated width to =
    Rows job constraints width
    × Run weights alpha 64 constraints.count
    × Run weights beta 64 aggregated.count
    × Rows scratch aggregated width
    × (aggregated.at + 64 * (width * aggregated.count) ≤ to)
    × (to + 64 * width ≤ length scratch)
