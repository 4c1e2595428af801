-- Digits stored cell after cell, and products with them.
use mathlib.Core.Path.{◌≡◌, refl, sym, ap, ap₂, subst, ◌∙◌}
use mathlib.Core.List.{List, ◌∷◌, [], ◌++◌, append-nil, flat_map}
use Prim.Native.Nat.{ℕ, zero, suc, ◌+◌, ◌*◌, ◌/◌, ◌%◌, ◌≤◌, ◌<◌, ◌^◌}
use native.Mathlib.Nat.{zero-add}
use native.Mathlib.Numerals.{add-one}
use native.Mathlib.Omega.{arith}
use lib.ListN.{length, get_or}
use Rattle.math.specs.lists.Table.{table, cat}
use Rattle.math.specs.lists.Part.{part}
use Rattle.math.proofs.lists.Table.{length-table, get_or-table, table-suc}
use Rattle.math.proofs.lists.Part.{part_of-part, length_flat_map, part_flat_map}
use Rattle.math.proofs.lists.Additive.{flat_map_append}
use Rattle.math.proofs.lists.Splice.{get_d_part}
use Rattle.math.specs.algebra.Ops as Ops
use Rattle.math.proofs.algebra.Sum.{sum_ext}
use Rattle.math.proofs.algebra.Dot.{dot_split, dot_ext}
use Rattle.spec_leaves.specs.Rq.{Element, radd, rzero, coeff, digit_row}
use Rattle.spec_leaves.specs.Ring.{RqOps, words, element}
use Rattle.spec_leaves.specs.Digits.{digit}
use Rattle.spec_leaves.proofs.Digits.{digit-size-le, digit-canonical}
use Rattle.spec_leaves.proofs.RqRing.{rq_ring}
use Rattle.spec_protocol.proofs.Norms.{words-digit}
use Rattle.ring_inner_product.specs.Run.{run}
use Rattle.spec_protocol.specs.Formulas.{◌⊕◌, ◌⊗◌, sum, dot, flat, digit_element, digits_of, times}
use Rattle.spec_protocol.proofs.Flat.{length-flat, length-words, element_of-flat}
use Rattle.ring_rq_matrix.specs.Region.{vector}
use Rattle.ring_rq_matrix.proofs.Place.{run-from, run-vector}
use Rattle.ring_rq_matrix.proofs.Word.{stands_for, words_of-sum, total-none}
use Rattle.ring_digit_products.specs.Forms.{SmallDigits}
use Rattle.commitments_outer.specs.declared.outer_commitments.Digits.{Digits}
use Rattle.commitments_outer.specs.Cells.{width, digits_at, digits_product}
use Rattle.core_workspace.specs.Holds.{Holds}
use Rattle.core_workspace.proofs.Holds.{list_held}
use Rattle.verify_many_windows.specs.Stored.{Stored}

-- the digits of cells, list after list
pub digits-cat : (b parts n : ℕ) (f : ℕ → Element) → digits_of b parts (table n f) ≡ cat n (λ i. table parts (digit_element b (f i)))
unfolding digits_of flat_map table cat
digits-cat b parts zero f = refl
digits-cat b parts (suc n) f =
    ap (digits_of b parts) (ap (λ k. table k f) (sym (add-one n)) ∙ table-suc n f)
    ∙ flat_map_append (λ e. table parts (digit_element b e)) (table n f) (f n ∷ [])
    ∙ ap₂ ◌++◌ (digits-cat b parts n f) (append-nil (table parts (digit_element b (f n))))

-- the product with no digits
pub product_none : (M v : List ℕ) (row at parts : ℕ) (l : List ℕ) → l ≡ rzero → l ≡ words (dot (0 * parts) (run M row 64) (run v at 64))
unfolding Ops.dot
product_none M v row at parts l e =
    let none : 0 ≡ 0 * parts = omega arith in
    total-none l (λ m. run M row 64 m ⊗ run v at 64 m) e ∙ ap (λ n. words (sum n (λ m. run M row 64 m ⊗ run v at 64 m))) none

-- the product with the digits of one more cell
pub product_next : (M v : List ℕ) (row at parts c column from : ℕ) (l a b : List ℕ) → column ≡ row + 64 * (c * parts) → from ≡ at + 64 * (c * parts)
    → l ≡ radd a b → a ≡ words (dot (c * parts) (run M row 64) (run v at 64)) → b ≡ words (dot parts (run M column 64) (run (part v from (64 * parts)) 0 64))
    → l ≡ words (dot ((c + 1) * parts) (run M row 64) (run v at 64))
product_next M v row at parts c column from l a b ec ef e ea eb =
    let more : c * parts + parts ≡ (c + 1) * parts = omega arith in
    let x = dot (c * parts) (run M row 64) (run v at 64) in
    let y = dot parts (run M column 64) (run (part v from (64 * parts)) 0 64) in
    words_of-sum l a b x y e (stands_for a x ea) (stands_for b y eb)
    ∙ ap words
    (ap (λ z. x ⊕ z) (dot_ext RqOps parts (run M column 64) (λ i. run M row 64 (c * parts + i)) (run (part v from (64 * parts)) 0 64) (λ i. run v at 64 (c * parts + i))
    (λ i h. ap (λ f. f i) (run-from M row (c * parts) column ec)) read)
    ∙ sym (dot_split RqOps rq_ring (c * parts) parts (run M row 64) (run v at 64))
    ∙ ap (λ n. dot n (run M row 64) (run v at 64)) more)
  where
    read : (i : ℕ) → i < parts → run (part v from (64 * parts)) 0 64 i ≡ run v at 64 (c * parts + i)
    read i h =
        let place : from + 64 * i ≡ at + 64 * (c * parts + i) = omega arith in
        ap element (ap (λ k. part (part v from (64 * parts)) k 64) (zero-add (64 * i)) ∙ part_of-part v from (64 * parts) (64 * i) 64 (omega arith) ∙ ap (λ k. part v k 64) place)

-- the digits of an element in a base up to 65536 are small
module _ (b parts : ℕ) (e : Element) where
  abbrev row : ℕ → Element
  row = digit_element b e

  word_at : (m j : ℕ) → m < parts → j < 64 → get_or (flat (table parts row)) (64 * m + j) 0 ≡ digit b (coeff (words e) j) m
  unfolding flat digit_row
  word_at m j h k =
      sym (get_d_part 0 (flat (table parts row)) (64 * m) 64 j k)
      ∙ ap (λ w. get_or w j 0) (part_flat_map words 64 length-words (table parts row) m (row 0) (omega (arith, length-table parts row)) ∙ ap words (get_or-table parts row m (row 0) h)
      ∙ words-digit b e m)
      ∙ get_or-table 64 (λ j. digit b (coeff (words e) j) m) j 0 k

  word_is : (i : ℕ) → i < 64 * parts → get_or (flat (table parts row)) i 0 ≡ digit b (coeff (words e) (i % 64)) (i / 64)
  word_is i h =
      let place : i ≡ 64 * (i / 64) + i % 64 = omega arith in
      ap (λ n. get_or (flat (table parts row)) n 0) place ∙ word_at (i / 64) (i % 64) (omega arith) (omega arith)

  digits-small : 1 < b → b / 2 ≤ 2 ^ 15 → SmallDigits (b / 2) (flat (table parts row)) parts
  digits-small large h = record {
    canonical = λ i k. rw (word_is i k) (digit-canonical b (coeff (words e) (i % 64)) (i / 64) (omega arith) (omega arith));
    within = λ i k. rw (word_is i k) (digit-size-le b (coeff (words e) (i % 64)) (i / 64) (omega arith) (omega arith));
  }

module _ (S T : List ℕ) (at b : ℕ) (d : Digits) (held : Holds S at (flat (digits_at T d b))) where
  abbrev cell : ℕ → Element
  cell = run T d.at 64

  -- there is a digit for each part of each cell
  pub digits-length : length (digits_at T d b) ≡ width d
  unfolding digits_of
  digits-length =
      length_flat_map (λ e. table d.parts (digit_element b e)) d.parts (λ e. length-table d.parts (digit_element b e)) (table d.cells cell)
      ∙ omega (arith, ap (λ n. d.parts * n) (length-table d.cells cell))

  -- the digits of cell c
  cell-held : (c : ℕ) → c < d.cells → part S (at + 64 * (c * d.parts)) (64 * d.parts) ≡ flat (table d.parts (digit_element b (cell c)))
  cell-held c h =
      let f : ℕ → List Element = λ i. table d.parts (digit_element b (cell i)) in
      let size : length (flat (f c)) ≡ 64 * d.parts = length-flat (f c) ∙ ap (λ n. 64 * n) (length-table d.parts (digit_element b (cell c))) in
      ap (part S (at + 64 * (c * d.parts))) (sym size)
      ∙ list_held S at d.cells d.parts f (λ i. length-table d.parts (digit_element b (cell i))) (subst (λ ds. Holds S at (flat ds)) (digits-cat b d.parts d.cells cell) held) c h

  -- they are small where the base is
  pub stored-small : (half : ℕ) → half ≡ b / 2 → 1 < b → b ≤ 4294967295 → d.cells ≤ 2 ^ 18 → d.parts ≤ 32 → Stored S at d.cells d.parts half
  stored-small half e large fits few less = record {
    few_cells = few;
    few_parts = less;
    half_fits = omega arith;
    small = λ h c k. subst (λ n. SmallDigits n (part S (at + 64 * (c * d.parts)) (64 * d.parts)) d.parts) (sym e)
        (subst (λ v. SmallDigits (b / 2) v d.parts) (sym (cell-held c k)) (digits-small b d.parts (cell c) large (omega arith)));
  }

  -- the product of row k of a matrix with them
  pub stored_product : (J : List ℕ) (m-at row k : ℕ) → row ≡ m-at + 64 * (k * width d) → dot (width d) (run J row 64) (run S at 64) ≡ digits_product J m-at T d b k
  unfolding times Ops.dot
  stored_product J m-at row k e =
      let ds = digits_at T d b in
      ap (λ n. sum n (λ m. run J row 64 m ⊗ run S at 64 m)) (sym digits-length)
      ∙ sum_ext RqOps (length ds) (λ m. run J row 64 m ⊗ run S at 64 m) (λ m. vector J m-at (width d) k m ⊗ get_or ds m RqOps.nil)
      (λ m h. ap₂ ◌⊗◌ (ap (λ f. f m) (run-vector J m-at (width d) k row e)) (element_of-flat S at ds m RqOps.nil held h))
