-- The elements of a region of a slice: what is stored is read back, and stores elsewhere leave it.
use mathlib.Core.Path.{◌≡◌, sym, ap, ◌∙◌}
use mathlib.Core.List.{List}
use Prim.Native.Nat.{ℕ, ◌+◌, ◌*◌, ◌≤◌, ◌<◌}
use native.Mathlib.Nat.{mul-le-mul_right}
use native.Mathlib.Omega.{arith}
use lib.ListN.{length, get_or}
use Rattle.math.specs.lists.Table.{table, cat}
use Rattle.math.specs.lists.Part.{part, splice}
use Rattle.math.proofs.lists.Sum.{Σ_ext, Σ_const, Σ-triangle}
use Rattle.math.proofs.lists.Table.{length-table, get_or-table, table_ext}
use Rattle.math.proofs.lists.Cat.{length-cat, get_or-cat, cat_ext, cat_runs}
use Rattle.math.proofs.lists.Splice.{part-splice-before, part-splice-same}
use Rattle.spec_leaves.specs.Rq.{Element}
use Rattle.spec_leaves.specs.Ring.{element}
use Rattle.spec_protocol.specs.Parameters.{triangular}
use Rattle.spec_protocol.specs.Views.{cell}
use Rattle.spec_protocol.specs.Formulas.{flat, rows, triangle}
pub use Rattle.spec_protocol.specs.Region.{Elements, Triangle, Vectors}
use Rattle.spec_protocol.proofs.Flat.{length-flat, element_of-flat, length-rows, row-cell-within, cell-within, cell_lower, length-triangle}

-- what stands before a store
pub elements_before : (l : List ℕ) (at n : ℕ) (f : ℕ → Element) (to : ℕ) (new : List ℕ) → at + 64 * n ≤ to → Elements l at n f → Elements (splice l to new) at n f
elements_before l at n f to new a h m k = ap element (part-splice-before 0 l to new (at + 64 * m) 64 (omega arith)) ∙ h m k

-- elements that are stored
pub elements_stored : (l : List ℕ) (at n : ℕ) (f : ℕ → Element) → at + 64 * n ≤ length l → Elements (splice l at (flat (table n f))) at n f
elements_stored l at n f a m k =
    element_of-flat (splice l at (flat (table n f))) at (table n f) m (f 0)
    (part-splice-same 0 l at (flat (table n f)) (omega (arith, length-flat (table n f), length-table n f))) (omega (arith, length-table n f))
    ∙ get_or-table n f m (f 0) k

-- element m after k rows of n
row-place : (at k n m : ℕ) → at + 64 * (k * n) + 64 * m ≡ at + 64 * (k * n + m)
row-place at k n m = omega arith

-- the elements of lists of n each, joined
pub length-lists : (r n : ℕ) (f : ℕ → List Element) → ((k : ℕ) → length (f k) ≡ n) → length (cat r f) ≡ r * n
length-lists r n f e = length-cat r f ∙ Σ_ext r (λ k. length (f k)) (λ k. n) (λ k l. e k) ∙ Σ_const r n

-- list k of lists of n elements each that are stored
pub elements_list : (l : List ℕ) (at r n : ℕ) (f : ℕ → List Element) → ((k : ℕ) → length (f k) ≡ n) → at + 64 * (r * n) ≤ length l → (d : Element) (k : ℕ) → k < r
    → Elements (splice l at (flat (cat r f))) (at + 64 * (k * n)) n (λ m. get_or (f k) m d)
elements_list l at r n f e a d k h m i =
    ap (λ place. element (part (splice l at (flat (cat r f))) place 64)) (row-place at k n m)
    ∙ element_of-flat (splice l at (flat (cat r f))) at (cat r f) (k * n + m) d
    (part-splice-same 0 l at (flat (cat r f)) (omega (arith, length-flat (cat r f), length-lists r n f e))) (omega (arith, length-lists r n f e, mul-le-mul_right n h))
    ∙ ap (λ place. get_or (cat r f) (place + m) d) (sym (Σ_ext k (λ q. length (f q)) (λ q. n) (λ q l. e q) ∙ Σ_const k n))
    ∙ get_or-cat r f k m d h (omega (arith, e k))

-- a region of as many elements as a triangle's
pub triangle_of : (words : List ℕ) (at r : ℕ) (F : ℕ → Element) (f : ℕ → ℕ → Element) → Elements words at (triangular r) F → ((i j : ℕ) → i < r → j < r → F (cell i j) ≡ f i j) → Triangle words at r f
triangle_of words at r F f h e i j k l = h (cell i j) (omega (arith, cell-within r f i j k l, length-triangle r f)) ∙ e i j k l

-- a region of as many elements as r vectors'
pub vectors_of : (words : List ℕ) (at r n : ℕ) (F : ℕ → Element) (f : ℕ → ℕ → Element) → Elements words at (r * n) F → ((i m : ℕ) → i < r → m < n → F (i * n + m) ≡ f i m) → Vectors words at r n f
vectors_of words at r n F f h e i m k l = h (i * n + m) (omega (arith, row-cell-within r f n i m k l, length-rows r f n)) ∙ e i m k l

-- rows of equal elements
pub rows_ext : (r n : ℕ) (f g : ℕ → ℕ → Element) → ((i m : ℕ) → i < r → m < n → f i m ≡ g i m) → rows r n f ≡ rows r n g
unfolding rows
rows_ext r n f g e = cat_ext r (λ i. table n (f i)) (λ i. table n (g i)) (λ i h. table_ext n (f i) (g i) (λ m k. e i m h k))

-- a triangle of equal elements
pub triangle_ext : (r : ℕ) (f g : ℕ → ℕ → Element) → ((i j : ℕ) → i < r → j < r → f i j ≡ g i j) → triangle r f ≡ triangle r g
unfolding triangle
triangle_ext r f g e = cat_ext r (λ i. table (i + 1) (f i)) (λ i. table (i + 1) (g i)) (λ i h. table_ext (i + 1) (f i) (g i) (λ j l. e i j h (omega arith)))

-- a triangle of r rows of the elements f 0, f 1, … is all of them
pub triangle-table : (r : ℕ) (f : ℕ → Element) → triangle r (λ i j. f (cell i j)) ≡ table (triangular r) f
unfolding triangle
triangle-table r f =
    cat_ext r (λ i. table (i + 1) (λ j. f (cell i j))) (λ i. table (i + 1) (λ k. f (_ + k)))
    (λ i h. table_ext (i + 1) (λ j. f (cell i j)) (λ k. f (_ + k)) (λ j l. ap f (cell_lower i j (omega arith) ∙ ap (λ n. n + j) (sym (Σ-triangle i)))))
    ∙ cat_runs r (λ i. i + 1) f
    ∙ ap (λ n. table n f) (Σ-triangle r)
