-- Digits from which nothing is left bind the cells themselves (document 02, Items 2 and 5): cells that come back from the same digits are the same.
use mathlib.Core.Path.{◌≡◌, refl, sym, ap, ◌∙◌}
use mathlib.Core.List.{List, ◌++◌}
use Prim.Native.Nat.{ℕ, ◌+◌, ◌*◌, ◌<◌}
use native.Mathlib.Omega.{arith}
use lib.ListN.{length, get_or, take, drop}
use lib.Seq.{ext_get_or, take_at, drop_at}
use Rattle.math.specs.lists.Table.{table, cat}
use Rattle.math.specs.lists.Sum.{Σ}
use Rattle.math.proofs.lists.Table.{length-table, table_ext, table_inj}
use Rattle.math.proofs.lists.Part.{part_flat_map}
use Rattle.math.proofs.lists.Cat.{cat-table-within, get_or-cat-table}
use Rattle.spec_leaves.specs.Digits.{digit, digits, leftover, size_after}
use Rattle.spec_leaves.specs.Recompose.{recompose}
use Rattle.spec_leaves.specs.Rq.{Element, coeff, digit_row}
use Rattle.spec_leaves.specs.Ring.{words}
use Rattle.spec_leaves.proofs.RqRing.{words_path}
use Rattle.spec_protocol.specs.Formulas.{digit_element, digits_of}
use Rattle.spec_protocol.specs.CellsBack.{Back}
use Rattle.spec_protocol.proofs.Flat.{length-words}
use Rattle.spec_protocol.proofs.Norms.{words-digit}
use Rattle.spec_binding.specs.Openings.{nil}

-- two cells that come back from the same digits
same-cell : (b parts : ℕ) (e f : Element) → Back b parts e → Back b parts f → table parts (digit_element b e) ≡ table parts (digit_element b f) → e ≡ f
unfolding digits digit_row
same-cell b parts e f back back' same =
    words_path e f (ext_get_or 0 (words e) (words f) (length-words e ∙ sym (length-words f)) (λ j l. coefficient j (omega (arith, length-words e))))
  where
    row : (q : ℕ) → q < parts → digit_row b (words e) q ≡ digit_row b (words f) q
    row q l = sym (words-digit b e q) ∙ ap words (table_inj parts (digit_element b e) (digit_element b f) same q l) ∙ words-digit b f q

    alike : (j : ℕ) → j < 64 → digits b parts (coeff (words e) j) ≡ digits b parts (coeff (words f) j)
    alike j l =
        table_ext parts (digit b (coeff (words e) j)) (digit b (coeff (words f) j)) (λ q m. table_inj 64 (λ j. digit b (coeff (words e) j) q) (λ j. digit b (coeff (words f) j) q) (row q m) j l)

    coefficient : (j : ℕ) → j < 64 → coeff (words e) j ≡ coeff (words f) j
    coefficient j l = sym (back j l) ∙ ap (recompose b) (alike j l) ∙ back' j l

-- the digits of one of the cells
cell-digits : (b parts : ℕ) (es fs : List Element) → digits_of b parts es ≡ digits_of b parts fs → (m : ℕ) → m < length es → m < length fs
    → table parts (digit_element b (get_or es m nil)) ≡ table parts (digit_element b (get_or fs m nil))
unfolding digits_of
cell-digits b parts es fs same m h k =
    let take-digits : Element → List Element = λ e. table parts (digit_element b e) in
    let size : (e : Element) → length (take-digits e) ≡ parts = λ e. length-table parts (digit_element b e) in
    sym (part_flat_map take-digits parts size es m nil h) ∙ ap (λ l. take parts (drop (parts * m) l)) same ∙ part_flat_map take-digits parts size fs m nil k

-- tables of cells joined, each of which comes back from the same digits
module _ (b parts n : ℕ) (w : ℕ → ℕ) (f g : ℕ → ℕ → Element) where
  pub same_cells : digits_of b parts (cat n (λ i. table (w i) (f i))) ≡ digits_of b parts (cat n (λ i. table (w i) (g i)))
      → ((i k : ℕ) → i < n → k < w i → Back b parts (f i k))
      → ((i k : ℕ) → i < n → k < w i → Back b parts (g i k))
      → (i k : ℕ) → i < n → k < w i → f i k ≡ g i k
  same_cells same back back' i k h l =
      same-cell b parts (f i k) (g i k) (back i k h l) (back' i k h l)
      (ap (λ e. table parts (digit_element b e)) (sym (get_or-cat-table n w f i k nil h l))
      ∙ cell-digits b parts (cat n (λ i. table (w i) (f i))) (cat n (λ i. table (w i) (g i))) same (Σ i w + k) (cat-table-within n w f i k h l) (cat-table-within n w g i k h l)
      ∙ ap (λ e. table parts (digit_element b e)) (get_or-cat-table n w g i k nil h l))

-- of two lists joined, the first of the same length
pub same_first {ℓ} : {A : Type ℓ} (n : ℕ) (x y x' y' : List A) → length x ≡ n → length x' ≡ n → x ++ y ≡ x' ++ y' → x ≡ x'
same_first n x y x' y' e f same = sym (take_at x y n e) ∙ ap (take n) same ∙ take_at x' y' n f

pub same_second {ℓ} : {A : Type ℓ} (n : ℕ) (x y x' y' : List A) → length x ≡ n → length x' ≡ n → x ++ y ≡ x' ++ y' → y ≡ y'
same_second n x y x' y' e f same = sym (drop_at x y n e) ∙ ap (drop n) same ∙ drop_at x' y' n f

-- one of two values without something left is not enough: 1 and 3 have the same digit in base 2, and nothing is left of 1
pub one_is_not-enough : (digits 2 1 1 ≡ digits 2 1 3) × ((leftover 2 1 1 ≡ 0) × (leftover 2 1 3 ≡ 1))
unfolding digits digit leftover size_after table
one_is_not-enough = (refl, (refl, refl))
