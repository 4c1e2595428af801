-- The digits of cells in slices, and where cells and matrices lie.
use Rattle.std.specs.Prelude.{◌≡◌, List, ℕ, ◌+◌, ◌*◌, ◌≤◌, ◌<◌, ◌^◌, length, get_or}
use Rattle.std.proofs.Math.Decide.{dec_le}
use Rattle.math.specs.lists.Table.{table}
use Rattle.math.specs.lists.Part.{part, splice}
use Rattle.spec_leaves.specs.Answer.{Answer, refused}
use Rattle.spec_leaves.specs.Zq.{Canonical}
use Rattle.spec_leaves.specs.Rq.{Element}
use Rattle.spec_leaves.specs.Ring.{element}
use Rattle.ring_inner_product.specs.Run.{run}
use Rattle.spec_protocol.specs.Checks.{require}
use Rattle.spec_protocol.specs.Formulas.{◌⊕◌, dot, flat, rows, norm_of, digit_element, digits_of, times}
use Rattle.ring_rq_matrix.specs.Region.{vector}
use Rattle.commitments_outer.specs.declared.outer_commitments.Digits.{Digits}

-- the digits of a slice's cells in base b, cell after cell
abbrev pub digits_at : List ℕ → Digits → ℕ → List Element
digits_at words d b = digits_of b d.parts (table d.cells (run words d.at 64))

-- the number of the digits
abbrev pub width : Digits → ℕ
width d = d.cells * d.parts

-- "13 norm of s_i above A's bound (i)": the test of vector i of n elements each in a slice
abbrev pub vector_norm : List ℕ → ℕ → ℕ → ℕ → ℕ → Answer
vector_norm words at n bound i = require (dec_le (norm_of (table n (vector words at n i))) bound) (refused 13 i)

-- as many elements from a place on lie within the slice
abbrev pub Room : List ℕ → ℕ → ℕ → Type 0
Room words at count = at + 64 * count ≤ length words

-- a slice with another element added to each of its n elements from a place on
abbrev pub added : List ℕ → ℕ → ℕ → (ℕ → Element) → List ℕ
added words at n f = splice words at (flat (table n (λ k. run words at 64 k ⊕ f k)))

-- the digits of the element at a place
abbrev pub digits_of_element : ℕ → List ℕ → ℕ → ℕ → Element
digits_of_element b words at = digit_element b (element (part words at 64))

-- the inner product of n elements with those of row k, rows at equal steps
abbrev pub row_product : List ℕ → ℕ → ℕ → ℕ → (ℕ → Element) → ℕ → Element
row_product matrix at step n f k = dot n (run matrix (at + step * k) 64) f

-- a matrix times the digits of cells, at row k
abbrev pub digits_product : List ℕ → ℕ → List ℕ → Digits → ℕ → ℕ → Element
digits_product matrix at words d b k = times (vector matrix at (width d)) (digits_at words d b) k

-- "t_i = A·s_i": r vectors of n elements at a place, with the rows of a matrix
abbrev pub commitments_of : List ℕ → ℕ → ℕ → ℕ → List ℕ → ℕ → ℕ → List ℕ
commitments_of matrix m-at count n vectors at r = flat (rows r count (λ i k. dot n (vector matrix m-at n k) (vector vectors at n i)))

-- "u1 = B·digits(t) + C·digits(g)"
abbrev pub u1_of : List ℕ → ℕ → ℕ → ℕ → List ℕ → Digits → Digits → ℕ → List ℕ
u1_of J b_at c-at n words t g b = flat (table n (λ k. digits_product J b_at words t b k ⊕ digits_product J c-at words g b k))

-- "u2 = D·digits(h)"
abbrev pub u2_of : List ℕ → ℕ → ℕ → List ℕ → Digits → ℕ → List ℕ
u2_of J d-at n words h b = flat (table n (digits_product J d-at words h b))

-- the cells lie within the slice, and they and their parts are few
pub record Cells (words : List ℕ) (d : Digits) : Type 0 where
  pub within : d.at + 64 * d.cells ≤ length words
  pub few_cells : d.cells ≤ 2 ^ 18
  pub few_parts : d.parts ≤ 32

-- blocks of `size` words at equal steps lie within the slice
pub record Blocks (words : List ℕ) (at step size n : ℕ) : Type 0 where
  pub within : (k : ℕ) → k < n → at + step * k + size ≤ length words
  pub near : step ≤ 2 ^ 40

-- buffers for 32 digits and their forms
abbrev pub Buffers : List ℕ → List ℕ → Type 0
Buffers digits forms = (length digits ≡ 2048) × (length forms ≡ 4096)

-- n words from a place on are canonical
abbrev pub CanonicalFrom : List ℕ → ℕ → ℕ → Type 0
CanonicalFrom words at n = (i : ℕ) → i < n → Canonical (get_or words (at + i) 0)
