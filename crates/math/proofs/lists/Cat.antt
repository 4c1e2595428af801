-- Laws of `cat`: its length, equal joins, and the elements of one list joined.
use mathlib.Core.Path.{◌≡◌, refl, sym, ap, ap₂, ◌∙◌}
use mathlib.Core.List.{List, ◌++◌}
use mathlib.Core.Logic.{◌⊎◌, inl, inr}
use Prim.Native.Nat.{ℕ, zero, suc, ◌+◌, ◌*◌, ◌<◌}
use native.Mathlib.Nat.{not-suc-le-zero, eq-or-lt_of_le, zero-mul, suc-mul}
use native.Mathlib.Numerals.{add-one}
use native.Mathlib.Omega.{arith}
use lib.ListN.{length, get_or, length-append, get_or-append}
use lib.Seq.{get_or-append-add}
use Rattle.math.specs.lists.Table.{table, cat}
use Rattle.math.specs.lists.Sum.{Σ}
use Rattle.math.proofs.lists.Additive.{additive_cat}
use Rattle.math.proofs.lists.Table.{length-table, get_or-table, table_split}
use Rattle.math.proofs.lists.Sum.{Σ_ext, Σ-within}

module _ {ℓ} {A : Type ℓ} where
  -- one more list stands at the end
  pub cat-suc : (n : ℕ) (f : ℕ → List A) → cat (n + 1) f ≡ cat n f ++ f n
  unfolding cat
  cat-suc n f = rw add-one

  -- lists that agree below n give equal joins
  pub cat_ext : (n : ℕ) (f g : ℕ → List A) → ((i : ℕ) → i < n → f i ≡ g i) → cat n f ≡ cat n g
  unfolding cat
  cat_ext zero f g h = refl
  cat_ext (suc n) f g h = ap₂ ◌++◌ (cat_ext n f g (λ i l. h i (omega arith))) (h n (omega arith))

  -- the lengths add up
  pub length-cat : (n : ℕ) (f : ℕ → List A) → length (cat n f) ≡ Σ n (λ i. length (f i))
  length-cat = additive_cat length (record { empty = refl; joined = length-append })

  -- element j of list i stands after the elements of the lists before it
  pub get_or-cat : (n : ℕ) (f : ℕ → List A) (i j : ℕ) (d : A) → i < n → j < length (f i) → get_or (cat n f) (Σ i (λ k. length (f k)) + j) d ≡ get_or (f i) j d
  unfolding cat
  get_or-cat zero f i j d h l = absurd (not-suc-le-zero h)
  get_or-cat (suc n) f i j d h l = go (eq-or-lt_of_le h) (get_or-cat n f i j d)
    where
      place : ℕ
      place = Σ i (λ k. length (f k)) + j

      go : (suc i ≡ suc n) ⊎ (suc i < suc n) → (i < n → j < length (f i) → get_or (cat n f) place d ≡ get_or (f i) j d) → get_or (cat n f ++ f n) place d ≡ get_or (f i) j d
      go (inl e) ih =
          let same : i ≡ n = omega arith in
          ap (λ k. get_or (cat n f ++ f n) (k + j) d) (ap (λ k. Σ k (λ q. length (f q))) same ∙ sym (length-cat n f))
          ∙ get_or-append-add (cat n f) (f n) j d
          ∙ ap (λ k. get_or (f k) j d) (sym same)
      go (inr m) ih = get_or-append (cat n f) (f n) d place (rw length-cat (Σ-within n (λ k. length (f k)) i j (omega arith) l)) ∙ ih (omega arith) l

  -- a table of m rows of n entries each, row after row
  pub table-rows : (m n : ℕ) (f : ℕ → A) → table (m * n) f ≡ cat m (λ i. table n (λ j. f (i * n + j)))
  unfolding cat table
  table-rows zero n f = ap (λ k. table k f) (zero-mul n)
  table-rows (suc m) n f =
      ap (λ k. table k f) (suc-mul m n) ∙ table_split (m * n) n f ∙ ap (λ l. l ++ table n (λ j. f (m * n + j))) (table-rows m n f)

  -- tables of n successive runs of values, run i of w i values, joined are the table of all
  pub cat_runs : (n : ℕ) (w : ℕ → ℕ) (f : ℕ → A) → cat n (λ i. table (w i) (λ k. f (Σ i w + k))) ≡ table (Σ n w) f
  unfolding cat table Σ
  cat_runs zero w f = refl
  cat_runs (suc n) w f = ap (λ l. l ++ table (w n) (λ k. f (Σ n w + k))) (cat_runs n w f) ∙ sym (table_split (Σ n w) (w n) f)

-- n tables joined, table i with w i entries f i 0, f i 1, …
module _ {ℓ} {A : Type ℓ} (n : ℕ) (w : ℕ → ℕ) (f : ℕ → ℕ → A) where
  -- the number of all entries
  pub length-cat-table : length (cat n (λ i. table (w i) (f i))) ≡ Σ n w
  length-cat-table = length-cat n (λ i. table (w i) (f i)) ∙ Σ_ext n (λ i. length (table (w i) (f i))) w (λ i l. length-table (w i) (f i))

  -- the place of entry j of table i is among them
  pub cat-table-within : (i j : ℕ) → i < n → j < w i → Σ i w + j < length (cat n (λ i. table (w i) (f i)))
  cat-table-within i j h l = rw length-cat-table (Σ-within n w i j h l)

  -- entry j of table i stands after the entries of the tables before it
  pub get_or-cat-table : (i j : ℕ) (d : A) → i < n → j < w i → get_or (cat n (λ i. table (w i) (f i))) (Σ i w + j) d ≡ f i j
  get_or-cat-table i j d h l =
      ap (λ k. get_or (cat n (λ i. table (w i) (f i))) (k + j) d) (sym (Σ_ext i (λ k. length (table (w k) (f k))) w (λ k m. length-table (w k) (f k))))
      ∙ get_or-cat n (λ i. table (w i) (f i)) i j d h (rw length-table l)
      ∙ get_or-table (w i) (f i) j d l
