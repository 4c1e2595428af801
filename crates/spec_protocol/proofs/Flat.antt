-- The words of elements one after the other, and the cells of rows and triangles.
use mathlib.Core.Path.{◌≡◌, sym, ap, ap₂, subst, ◌∙◌}
use mathlib.Core.List.{List, [], ◌∷◌, ◌++◌, flat_map}
use Prim.Native.Nat.{ℕ, ◌+◌, ◌-◌, ◌*◌, ◌≤◌, ◌<◌}
use native.Mathlib.Nat.{not-suc-le-zero, min-eq_left, min-eq_right, max-eq_left, max-eq_right}
use native.Mathlib.Decide.{dec_le, dec_lt}
use native.Mathlib.Omega.{arith}
use lib.ListN.{length, get_or, length-append, get_or-append}
use lib.Seq.{get_or-append-add}
use Rattle.math.specs.lists.Table.{table}
use Rattle.math.proofs.lists.Table.{length-table}
use Rattle.math.proofs.lists.Sum.{Σ_const, Σ-triangle}
use Rattle.math.proofs.lists.Part.{part_of-part, length_flat_map, part_flat_map}
use Rattle.math.proofs.lists.Cat.{length-cat-table, cat-table-within, get_or-cat-table}
use Rattle.spec_leaves.specs.Zq.{Canonical}
use Rattle.spec_leaves.specs.Rq.{Element, AllCanonical}
use Rattle.spec_leaves.specs.Ring.{words, element}
use Rattle.spec_leaves.proofs.Bridge.{element-words}
use Rattle.spec_protocol.specs.Parameters.{triangular}
use Rattle.spec_protocol.specs.Layout.{part}
use Rattle.spec_protocol.specs.Views.{element_at, cell}
use Rattle.spec_protocol.specs.Formulas.{flat, rows, triangle}

-- an element has 64 words
pub length-words : (e : Element) → length (words e) ≡ 64
length-words e = e.1.0

-- 64 words for each element
pub length-flat : (es : List Element) → length (flat es) ≡ 64 * length es
unfolding flat
length-flat es = length_flat_map words 64 length-words es

-- of a table of n elements
pub length-flat-table : (n : ℕ) (f : ℕ → Element) → length (flat (table n f)) ≡ 64 * n
length-flat-table n f = length-flat (table n f) ∙ ap (λ k. 64 * k) (length-table n f)

-- a word of two lists joined is canonical where those of both are
canonical-append : (a b : List ℕ) → AllCanonical a → AllCanonical b → AllCanonical (a ++ b)
canonical-append a b f g k h = go (dec_lt k (length a))
  where
    go : Dec (k < length a) → Canonical (get_or (a ++ b) k 0)
    go (yes l) = rw (get_or-append a b 0 k l) (f k l)
    go (no ge) =
        let place : k ≡ length a + (k - length a) = omega arith in
        rw (place, get_or-append-add a b (k - length a) 0) (g (k - length a) (omega (arith, length-append a b)))

-- the words of elements are canonical
pub flat-canonical : (es : List Element) → AllCanonical (flat es)
unfolding flat flat_map
flat-canonical [] k h = absurd (not-suc-le-zero h)
flat-canonical (e ∷ es) k h = canonical-append (words e) (flat es) e.1.1 (flat-canonical es) k h

-- element m of elements whose words stand from a place on
pub element_of-flat : (ws : List ℕ) (place : ℕ) (es : List Element) (m : ℕ) (d : Element) → part ws place (length (flat es)) ≡ flat es → m < length es → element_at ws place m ≡ get_or es m d
element_of-flat ws place es m d from h =
    ap element
    (sym (part_of-part ws place (length (flat es)) (64 * m) 64 (omega (arith, length-flat es)))
    ∙ ap (λ l. part l (64 * m) 64) from
    ∙ one)
    ∙ element-words (get_or es m d)
  where
    one : part (flat es) (64 * m) 64 ≡ words (get_or es m d)
    one = unfold flat in part_flat_map words 64 length-words es m d h

-- a cell above the diagonal stands where its mirror image does
pub cell-upper : (i j : ℕ) → i ≤ j → cell i j ≡ triangular j + i
cell-upper i j h = ap₂ (λ row column. triangular row + column) (max-eq_right h) (min-eq_left h)

-- any other in its row and column
pub cell_lower : (i j : ℕ) → j ≤ i → cell i j ≡ triangular i + j
cell_lower i j h = ap₂ (λ row column. triangular row + column) (max-eq_left h) (min-eq_right h)

module _ (r : ℕ) (f : ℕ → ℕ → Element) where
  -- r rows of m cells
  pub length-rows : (m : ℕ) → length (rows r m f) ≡ r * m
  unfolding rows
  length-rows m = length-cat-table r (λ i. m) f ∙ Σ_const r m

  -- the place of cell k of row i is among them
  pub row-cell-within : (m i k : ℕ) → i < r → k < m → i * m + k < length (rows r m f)
  unfolding rows
  row-cell-within m i k h l = rw (Σ_const i m) at (cat-table-within r (λ i. m) f i k h l)

  -- cell k of row i
  pub row-cell : (m i k : ℕ) (d : Element) → i < r → k < m → get_or (rows r m f) (i * m + k) d ≡ f i k
  unfolding rows
  row-cell m i k d h l = rw (Σ_const i m) at (get_or-cat-table r (λ i. m) f i k d h l)

  -- the cells of a triangle of r rows
  pub length-triangle : length (triangle r f) ≡ triangular r
  unfolding triangle
  length-triangle = length-cat-table r (λ i. i + 1) f ∙ Σ-triangle r

  -- a fact of each place of row i, column j at most i, is one of each cell and its mirror image
  by_halves : (C : ℕ → ℕ → ℕ → Type 0) → ((k i j : ℕ) → C k i j → C k j i) → ((i j : ℕ) → i < r → j ≤ i → C (triangular i + j) i j) → (i j : ℕ) → i < r → j < r → C (cell i j) i j
  by_halves C mirrored lower i j h l = go (dec_le j i)
    where
      go : Dec (j ≤ i) → C (cell i j) i j
      go (yes below) = subst (λ k. C k i j) (sym (cell_lower i j below)) (lower i j h below)
      go (no above) = let upper : i ≤ j = omega arith in subst (λ k. C k i j) (sym (cell-upper i j upper)) (mirrored (triangular j + i) j i (lower j i l upper))

  -- the place of cell (i, j) is among the triangle's
  pub cell-within : (i j : ℕ) → i < r → j < r → cell i j < length (triangle r f)
  unfolding triangle
  cell-within = by_halves (λ k i j. k < length (triangle r f)) (λ k i j h. h) (λ i j h l. rw (Σ-triangle i) at (cat-table-within r (λ i. i + 1) f i j h (omega arith)))

  -- the cell at (i, j), of f or mirrored
  pub triangle-cell : ((i j : ℕ) → f i j ≡ f j i) → (d : Element) (i j : ℕ) → i < r → j < r → get_or (triangle r f) (cell i j) d ≡ f i j
  unfolding triangle
  triangle-cell symmetric d = by_halves (λ k i j. get_or (triangle r f) k d ≡ f i j) (λ k i j e. e ∙ symmetric i j)
      (λ i j h l. rw (Σ-triangle i) at (get_or-cat-table r (λ i. i + 1) f i j d h (omega arith)))
