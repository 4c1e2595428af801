-- The columns of r rows, stored one after the other, are the rows.
use mathlib.Core.Path.{◌≡◌, refl, sym, ap, subst, ◌∙◌}
use mathlib.Core.Logic.{◌⊎◌, inl, inr}
use mathlib.Core.List.{List}
use Prim.Native.Nat.{ℕ, ◌+◌, ◌-◌, ◌*◌, ◌/◌, ◌%◌, ◌≤◌, ◌<◌}
use native.Mathlib.Nat.{not-suc-le-zero, mul-le-mul_right, div-add-mod', mod-lt, div-lt_iff_lt-mul}
use native.Mathlib.Decide.{dec_le, dec_lt}
use native.Mathlib.Omega.{arith}
use lib.ListN.{length, get_or}
use lib.Seq.{ext_get_or}
use Rattle.math.specs.lists.Part.{part, splice}
use Rattle.math.proofs.lists.Part.{part_flat_map}
use Rattle.math.proofs.lists.Splice.{length-splice, get_d_part, get_or-splice-before, get_or-splice-within, get_or-splice-after}
use Rattle.spec_leaves.specs.Rq.{Element}
use Rattle.spec_leaves.specs.Ring.{words}
use Rattle.spec_protocol.specs.Formulas.{flat, rows}
use Rattle.spec_protocol.proofs.Flat.{length-words, length-flat, length-rows, row-cell, row-cell-within}
use Rattle.commitments_ajtai.specs.Spread.{spread}
use Rattle.commitments_ajtai.proofs.SpreadLaws.{length-spread, spread_apart, spread-within}

-- the first k columns of r rows of `width` cells are stored
pub record Columns (S S' : List ℕ) (at r width k : ℕ) (f : ℕ → ℕ → Element) : Type 0 where
  pub size : length S' ≡ length S
  pub cells : (i j y : ℕ) → i < r → j < k → y < 64 → get_or S' (at + 64 * (i * width + j) + y) 0 ≡ get_or (words (f i j)) y 0
  pub outside : (x : ℕ) → (x < at) ⊎ (at + 64 * (r * width) ≤ x) → get_or S' x 0 ≡ get_or S x 0

module _ (S : List ℕ) (at r width : ℕ) (f : ℕ → ℕ → Element) (room : at + 64 * (r * width) ≤ length S) where
  pub columns_none : Columns S S at r width 0 f
  columns_none = record { size = refl; cells = λ i j y h l m. absurd (not-suc-le-zero l); outside = λ x h. refl }

  -- one more
  pub columns_next : (S' S'' : List ℕ) (k : ℕ) → k < width → Columns S S' at r width k f → S'' ≡ spread S' (at + 64 * k) (64 * width) r (λ i. f i k) → Columns S S'' at r width (k + 1) f
  columns_next S' S'' k h c e =
      subst (λ l. Columns S l at r width (k + 1) f) (sym e) record {
        size = length-spread S' (at + 64 * k) (64 * width) (λ i. f i k) r ∙ c.size;
        cells = λ i j y a b d. go i j y a d (dec_lt j k) b;
        outside = λ x o. spread_apart S' (at + 64 * k) (64 * width) (λ i. f i k) r x (λ i a. beyond x i a o) ∙ c.outside x o;
      }
    where
      beyond : (x i : ℕ) → i < r → (x < at) ⊎ (at + 64 * (r * width) ≤ x) → (x < at + 64 * k + 64 * width * i) ⊎ (at + 64 * k + 64 * width * i + 64 ≤ x)
      beyond x i a (inl l) = inl (omega arith)
      beyond x i a (inr l) = inr (omega (arith, mul-le-mul_right width a))

      beside : (i j y m : ℕ) → j < k → y < 64 → Dec (i ≤ m) → (at + 64 * (i * width + j) + y < at + 64 * k + 64 * width * m) ⊎ (at + 64 * k + 64 * width * m + 64 ≤ at + 64 * (i * width + j) + y)
      beside i j y m b d (yes l) = inl (omega (arith, mul-le-mul_right width l))
      beside i j y m b d (no l) = let before : m + 1 ≤ i = omega arith in inr (omega (arith, mul-le-mul_right width before))

      go : (i j y : ℕ) → i < r → y < 64 → Dec (j < k) → j < k + 1 → get_or (spread S' (at + 64 * k) (64 * width) r (λ i. f i k)) (at + 64 * (i * width + j) + y) 0 ≡ get_or (words (f i j)) y 0
      go i j y a d (yes l) b = spread_apart S' (at + 64 * k) (64 * width) (λ i. f i k) r (at + 64 * (i * width + j) + y) (λ m q. beside i j y m l d (dec_le i m)) ∙ c.cells i j y a l d
      go i j y a d (no l) b =
          let same : j ≡ k = omega arith in
          let there : at + 64 * (i * width + j) + y ≡ at + 64 * k + 64 * width * i + y = omega arith in
          ap (λ x. get_or (spread S' (at + 64 * k) (64 * width) r (λ i. f i k)) x 0) there
          ∙ spread-within S' (at + 64 * k) (64 * width) (λ i. f i k) r i y (omega arith) (λ m q. omega (arith, mul-le-mul_right width q, c.size)) a d
          ∙ ap (λ m. get_or (words (f i m)) y 0) (sym same)

  -- all of them
  pub columns_all : (S' : List ℕ) (k : ℕ) → k ≡ width → Columns S S' at r width k f → S' ≡ splice S at (flat (rows r width f))
  columns_all S' k done c = ext_get_or 0 S' (splice S at ws) (c.size ∙ sym (length-splice S at ws)) (λ x l. each x (dec_lt x at) (dec_lt x (at + 64 * (r * width))))
    where
      ws : List ℕ
      ws = flat (rows r width f)

      size : length ws ≡ 64 * (r * width)
      size = length-flat (rows r width f) ∙ ap (λ n. 64 * n) (length-rows r f width)

      one : (i j : ℕ) → i < r → j < width → part (flat (rows r width f)) (64 * (i * width + j)) 64 ≡ words (get_or (rows r width f) (i * width + j) (f 0 0))
      one i j a b = unfold flat in part_flat_map words 64 length-words (rows r width f) (i * width + j) (f 0 0) (row-cell-within r f width i j a b)

      -- word y of cell (i, j)
      word : (i j y : ℕ) → i < r → j < width → y < 64 → get_or S' (at + 64 * (i * width + j) + y) 0 ≡ get_or ws (64 * (i * width + j) + y) 0
      word i j y a b d =
          c.cells i j y a (omega arith) d
          ∙ ap (λ l. get_or l y 0) (sym (one i j a b ∙ ap words (row-cell r f width i j (f 0 0) a b)))
          ∙ get_d_part 0 ws (64 * (i * width + j)) 64 y d

      inside : (o : ℕ) → o < 64 * (r * width) → 0 < width → get_or S' (at + o) 0 ≡ get_or ws o 0
      inside o l pos =
          let cell : o / 64 ≡ o / 64 / width * width + o / 64 % width = sym (div-add-mod' (o / 64) width) in
          let there : o ≡ 64 * (o / 64 / width * width + o / 64 % width) + o % 64 = omega (arith, cell) in
          let place : at + o ≡ at + 64 * (o / 64 / width * width + o / 64 % width) + o % 64 = omega (arith, there) in
          let row : o / 64 / width < r = (div-lt_iff_lt-mul {k = width} {x = o / 64} {y = r} pos).1 (omega arith) in
          ap (λ x. get_or S' x 0) place ∙ word (o / 64 / width) (o / 64 % width) (o % 64) row (mod-lt (o / 64) pos) (omega arith) ∙ ap (λ x. get_or ws x 0) (sym there)

      each : (x : ℕ) → Dec (x < at) → Dec (x < at + 64 * (r * width)) → get_or S' x 0 ≡ get_or (splice S at ws) x 0
      each x (yes a) b = c.outside x (inl a) ∙ sym (get_or-splice-before S at ws x 0 a)
      each x (no a) (no b) = c.outside x (inr (omega arith)) ∙ sym (get_or-splice-after S at ws x 0 (omega (arith, size)))
      each x (no a) (yes b) =
          let place : x ≡ at + (x - at) = omega arith in
          ap (λ z. get_or S' z 0) place ∙ inside (x - at) (omega arith) (some x a b (dec_lt 0 width)) ∙ sym (get_or-splice-within S at ws (x - at) 0 (omega (arith, size)) (omega (arith, size)))
          ∙ ap (λ z. get_or (splice S at ws) z 0) (sym place)
        where
          some : (x : ℕ) → (x < at → ⊥) → x < at + 64 * (r * width) → Dec (0 < width) → 0 < width
          some x a b (yes p) = p
          some x a b (no p) = let none : width ≡ 0 = omega arith in let nothing : r * width ≡ 0 = ap (λ w. r * w) none ∙ omega arith in absurd (omega (arith, nothing))
