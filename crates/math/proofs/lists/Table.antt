-- Laws of `table`: its length, its elements, equal tables, its parts and one more element.
use mathlib.Core.Path.{◌≡◌, refl, sym, ap, ◌∙◌}
use mathlib.Core.List.{List, [], ◌∷◌, ◌++◌, map, map-append, append-nil, append_assoc}
use mathlib.Core.Logic.{◌⊎◌, inl, inr}
use Prim.Native.Nat.{ℕ, zero, suc, ◌+◌, ◌≤◌, ◌<◌}
use native.Mathlib.Nat.{not-suc-le-zero, eq-or-lt_of_le, add-zero, add-suc}
use native.Mathlib.Numerals.{add-one}
use native.Mathlib.Omega.{arith}
use lib.ListN.{length, get_or, take, drop, length-append, length-take, length-drop, get_or-append}
use lib.Seq.{ext_get_or, get_or_at, get_or-take, get_or-drop}
use Rattle.math.specs.lists.Table.{table}

module _ {ℓ} {A : Type ℓ} where
  -- a table of n entries has n elements
  pub length-table : (n : ℕ) (f : ℕ → A) → length (table n f) ≡ n
  unfolding table
  length-table zero f = refl
  length-table (suc n) f = length-append (table n f) _ ∙ ap (λ k. k + 1) (length-table n f) ∙ add-one n

  -- element i of a table is the function's value at i
  pub get_or-table : (n : ℕ) (f : ℕ → A) (i : ℕ) (d : A) → i < n → get_or (table n f) i d ≡ f i
  unfolding table
  get_or-table zero f i d h = absurd (not-suc-le-zero h)
  get_or-table (suc n) f i d h = go (eq-or-lt_of_le h) (get_or-table n f i d)
    where
      go : (suc i ≡ suc n) ⊎ (suc i < suc n) → (i < n → get_or (table n f) i d ≡ f i) → get_or (table n f ++ (f n ∷ [])) i d ≡ f i
      go (inl e) ih =
          let k : n ≡ i = omega arith in
          get_or_at (table n f) (f n) [] d i (length-table n f ∙ k) ∙ ap f k
      go (inr l) ih = get_or-append (table n f) (f n ∷ []) d i (rw length-table (omega arith)) ∙ ih (omega arith)

  -- tables of functions that agree below n are equal
  pub table_ext : (n : ℕ) (f g : ℕ → A) → ((i : ℕ) → i < n → f i ≡ g i) → table n f ≡ table n g
  unfolding table
  table_ext zero f g h = refl
  table_ext (suc n) f g h = λ i. table_ext n f g (λ k l. h k (omega arith)) i ++ (h n (omega arith) i ∷ [])

  -- one more entry stands at the end
  pub table-suc : (n : ℕ) (f : ℕ → A) → table (n + 1) f ≡ table n f ++ (f n ∷ [])
  unfolding table
  table-suc n f = rw add-one

  -- a list is the table of its elements
  pub table-get_or : (n : ℕ) (l : List A) (d : A) → length l ≡ n → table n (λ i. get_or l i d) ≡ l
  table-get_or n l d e = ext_get_or d (table n (λ i. get_or l i d)) l (length-table n (λ i. get_or l i d) ∙ sym e) (λ i h. get_or-table n (λ k. get_or l k d) i d (rw length-table at h))

  -- a list of length n with the function's values is its table
  pub is_table : (n : ℕ) (l : List A) (f : ℕ → A) (d : A) → length l ≡ n → ((i : ℕ) → i < n → get_or l i d ≡ f i) → l ≡ table n f
  is_table n l f d e h = sym (table-get_or n l d e) ∙ table_ext n (λ i. get_or l i d) f h

  -- functions with equal tables agree below n
  pub table_inj : (n : ℕ) (f g : ℕ → A) → table n f ≡ table n g → (i : ℕ) → i < n → f i ≡ g i
  table_inj n f g e i h = sym (get_or-table n f i (f 0) h) ∙ ap (λ l. get_or l i (f 0)) e ∙ get_or-table n g i (f 0) h

  -- the first m entries
  pub take-table : (m n : ℕ) (f : ℕ → A) → m ≤ n → take m (table n f) ≡ table m f
  take-table m n f h = is_table m (take m (table n f)) f (f 0) (length-take m (table n f) ∙ rw length-table (omega arith))
      (λ i l. get_or-take m (table n f) i (f 0) l ∙ get_or-table n f i (f 0) (omega arith))

  -- the entries from m on
  pub drop-table : (m n : ℕ) (f : ℕ → A) → drop m (table (m + n) f) ≡ table n (λ i. f (m + i))
  drop-table m n f = is_table n (drop m (table (m + n) f)) (λ i. f (m + i)) (f 0) (length-drop m (table (m + n) f) ∙ rw length-table (omega arith))
      (λ i l. get_or-drop m (table (m + n) f) i (f 0) ∙ get_or-table (m + n) f (m + i) (f 0) (omega arith))

  -- a table split after its first m entries
  pub table_split : (m n : ℕ) (f : ℕ → A) → table (m + n) f ≡ table m f ++ table n (λ i. f (m + i))
  unfolding table
  table_split m zero f = ap (λ k. table k f) (add-zero m) ∙ sym (append-nil (table m f))
  table_split m (suc n) f =
      ap (λ k. table k f) (add-suc m n) ∙ ap (λ l. l ++ (f (m + n) ∷ [])) (table_split m n f) ∙ append_assoc (table m f) (table n (λ i. f (m + i))) (f (m + n) ∷ [])

module _ {ℓ κ} {A : Type ℓ} {B : Type κ} where
  -- a function applied to each entry
  pub map-table : (g : A → B) (n : ℕ) (f : ℕ → A) → map g (table n f) ≡ table n (λ i. g (f i))
  unfolding table
  map-table g zero f = refl
  map-table g (suc n) f = map-append g (table n f) (f n ∷ []) ∙ ap (λ l. l ++ (g (f n) ∷ [])) (map-table g n f)
