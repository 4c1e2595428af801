-- A matrix times the digits of cells, one cell after the other.
use mathlib.Core.Path.{◌≡◌, refl, sym, ◌∙◌, ap, ap₂}
use mathlib.Core.List.{List, [], ◌∷◌, ◌++◌, flat_map, append-nil}
use Prim.Native.Nat.{ℕ, ◌+◌, ◌*◌, ◌≤◌, ◌<◌, ◌^◌}
use native.Mathlib.Nat.{mul-le-mul}
use native.Mathlib.Omega.{arith}
use lib.ListN.{length, get_or, length-append, get_or-append}
use lib.Seq.{get_or-append-add}
use Rattle.math.specs.lists.Table.{table}
use Rattle.math.proofs.lists.Table.{length-table, get_or-table, table-suc}
use Rattle.math.proofs.lists.Part.{length_flat_map}
use Rattle.math.proofs.lists.Additive.{flat_map_append}
use Rattle.math.specs.algebra.Ops as Ops
use Rattle.math.proofs.algebra.Sum.{sum_ext, sum_split}
use Rattle.spec_leaves.specs.Rq.{Element}
use Rattle.spec_leaves.specs.Ring.{RqOps}
use Rattle.spec_leaves.proofs.RqRing.{rq_ring}
use Rattle.ring_inner_product.specs.Run.{run}
use Rattle.spec_protocol.specs.Formulas.{◌⊕◌, ◌⊗◌, sum, dot, digit_element, digits_of, times}
use Rattle.ring_rq_matrix.specs.Region.{vector}
use Rattle.ring_rq_matrix.proofs.Place.{rows-within, run-from}
use Rattle.commitments_outer.specs.Cells.{Blocks}

-- zero
abbrev nil : Element
nil = RqOps.nil

-- a row times two vectors joined
times-append : (M : ℕ → ℕ → Element) (v w : List Element) (k : ℕ) → times M (v ++ w) k ≡ times M v k ⊕ sum (length w) (λ m. M k (length v + m) ⊗ get_or w m nil)
unfolding times
times-append M v w k =
    ap (λ n. sum n (λ m. M k m ⊗ get_or (v ++ w) m nil)) (length-append v w)
    ∙ sum_split RqOps rq_ring (length v) (length w) (λ m. M k m ⊗ get_or (v ++ w) m nil)
    ∙ ap₂ ◌⊕◌
    (sum_ext RqOps (length v) (λ m. M k m ⊗ get_or (v ++ w) m nil) (λ m. M k m ⊗ get_or v m nil) (λ m h. ap (◌⊗◌ (M k m)) (get_or-append v w nil m h)))
    (sum_ext RqOps (length w) (λ m. M k (length v + m) ⊗ get_or (v ++ w) (length v + m) nil) (λ m. M k (length v + m) ⊗ get_or w m nil)
    (λ m h. ap (◌⊗◌ (M k (length v + m))) (get_or-append-add v w m nil)))

-- the digits of cells f 0, f 1, … in base b and so many parts
module _ (b parts : ℕ) (f : ℕ → Element) where
  -- the digits of one more cell stand at the end
  digits-suc : (c : ℕ) → digits_of b parts (table (c + 1) f) ≡ digits_of b parts (table c f) ++ table parts (digit_element b (f c))
  unfolding digits_of flat_map
  digits-suc c =
      ap (digits_of b parts) (table-suc c f)
      ∙ flat_map_append (λ e. table parts (digit_element b e)) (table c f) (f c ∷ [])
      ∙ ap (λ l. digits_of b parts (table c f) ++ l) (append-nil (table parts (digit_element b (f c))))

  -- as many digits as parts for each cell
  length_digits : (c : ℕ) → length (digits_of b parts (table c f)) ≡ c * parts
  unfolding digits_of
  length_digits c =
      length_flat_map (λ e. table parts (digit_element b e)) parts (λ e. length-table parts (digit_element b e)) (table c f)
      ∙ omega (arith, ap (λ n. parts * n) (length-table c f))

  module _ (M : ℕ → ℕ → Element) where
    -- a row times no digits
    pub times_none : (k : ℕ) → times M (digits_of b parts (table 0 f)) k ≡ nil
    unfolding times digits_of table flat_map Ops.sum
    times_none k = refl

    -- a row times the digits of one more cell
    times-next : (c k : ℕ) → times M (digits_of b parts (table (c + 1) f)) k ≡ times M (digits_of b parts (table c f)) k ⊕ dot parts (λ m. M k (c * parts + m)) (digit_element b (f c))
    unfolding Ops.dot
    times-next c k =
        let last = table parts (digit_element b (f c)) in
        ap (λ v. times M v k) (digits-suc c)
        ∙ times-append M (digits_of b parts (table c f)) last k
        ∙ ap (◌⊕◌ (times M (digits_of b parts (table c f)) k))
        (ap₂ (λ n p. sum n (λ m. M k (p + m) ⊗ get_or last m nil)) (length-table parts (digit_element b (f c))) (length_digits c)
        ∙ sum_ext RqOps parts (λ m. M k (c * parts + m) ⊗ get_or last m nil) (λ m. M k (c * parts + m) ⊗ digit_element b (f c) m)
        (λ m h. ap (◌⊗◌ (M k (c * parts + m))) (get_or-table parts (digit_element b (f c)) m nil h)))

-- a matrix in a slice, with an entry in each row for each digit of its cells; `column` is the place of cell c's entries in the first row
module _ (l : List ℕ) (m-at cells parts c column : ℕ) (at : column ≡ m-at + 64 * (c * parts)) where
  -- the blocks of the cell's entries lie within the matrix
  pub cell_blocks : (rows : ℕ) → m-at + 64 * (rows * (cells * parts)) ≤ length l → parts ≤ 32 → cells ≤ 2 ^ 18 → c < cells → Blocks l column (64 * (cells * parts)) (64 * parts) rows
  cell_blocks rows h few some less = record {
    within = λ k q. omega (arith, rows-within c cells parts less, rows-within k rows (cells * parts) q);
    near = omega (arith, mul-le-mul some few);
  }

  -- the cell's entries in row k
  cell-entries : (k : ℕ) → run l (column + 64 * (cells * parts) * k) 64 ≡ (λ m. vector l m-at (cells * parts) k (c * parts + m))
  cell-entries k = run-from l m-at (k * (cells * parts) + c * parts) (column + 64 * (cells * parts) * k) (place (cells * parts)) ∙ λ i m. run l m-at 64 (regroup (cells * parts) m i)
    where
      place : (w : ℕ) → column + 64 * w * k ≡ m-at + 64 * (k * w + c * parts)
      place w = omega arith

      regroup : (w m : ℕ) → k * w + c * parts + m ≡ k * w + (c * parts + m)
      regroup w m = omega arith

  -- the products with the digits of one more cell, added to those before
  pub cell-added : (b k : ℕ) (f : ℕ → Element) (cell x : Element) → cell ≡ f c
      → x ⊕ times (vector l m-at (cells * parts)) (digits_of b parts (table c f)) k ⊕ dot parts (run l (column + 64 * (cells * parts) * k) 64) (digit_element b cell)
      ≡ x ⊕ times (vector l m-at (cells * parts)) (digits_of b parts (table (c + 1) f)) k
  cell-added b k f cell x e =
      let M = vector l m-at (cells * parts) in
      let before = times M (digits_of b parts (table c f)) k in
      rq_ring.add_assoc x before (dot parts (run l (column + 64 * (cells * parts) * k) 64) (digit_element b cell))
      ∙ ap₂ (λ row y. x ⊕ (before ⊕ dot parts row (digit_element b y))) (cell-entries k) e
      ∙ ap (◌⊕◌ x) (sym (times-next b parts f M c k))
