-- Norms of lists of words, of elements and of their digits.
use mathlib.Core.Path.{◌≡◌, refl, ap, ap₂, ◌∙◌}
use mathlib.Core.List.{List, [], ◌∷◌, ◌++◌, flat_map, append-nil}
use Prim.Native.Nat.{ℕ, ◌+◌}
use lib.ListN.{length, get_or, length-append, get_or-append}
use lib.Seq.{get_or-append-add}
use Rattle.math.specs.lists.Table.{table, cat}
use Rattle.math.specs.lists.Sum.{Σ}
use Rattle.math.proofs.lists.Table.{length-table, get_or-table}
use Rattle.math.proofs.lists.Sum.{Σ_ext, Σ_split}
use Rattle.math.proofs.lists.Additive.{Additive, additive_cat, additive_table, additive_flat_map}
use Rattle.spec_leaves.specs.Norm.{square, norm}
use Rattle.spec_leaves.specs.Digits.{digit, rest}
use Rattle.spec_leaves.specs.Rq.{Element, coeff, digit_row, rest_row}
use Rattle.spec_leaves.specs.Ring.{words, table_element}
use Rattle.spec_leaves.proofs.Bridge.{coeff-canonical, words-element}
use Rattle.spec_leaves.proofs.Digits.{digit_of-canonical, rest_of-canonical}
use Rattle.spec_protocol.specs.Formulas.{flat, norm_of, digit_element, rest_element, two_parts, digits_of, rows, triangle}
use Rattle.spec_protocol.specs.Conditions.{two_parts_norm, digits_norm}

-- the norm adds up over lists joined
pub norm_additive : Additive ℕ norm
unfolding norm Σ
norm_additive = record { empty = refl; joined = joined }
  where
    joined : (a b : List ℕ) → norm (a ++ b) ≡ norm a + norm b
    joined a b =
        ap (λ n. Σ n (λ i. square (get_or (a ++ b) i 0))) (length-append a b)
        ∙ Σ_split (length a) (length b) (λ i. square (get_or (a ++ b) i 0))
        ∙ ap₂ ◌+◌
        (Σ_ext (length a) (λ i. square (get_or (a ++ b) i 0)) (λ i. square (get_or a i 0)) (λ i h. ap square (get_or-append a b 0 i h)))
        (Σ_ext (length b) (λ i. square (get_or (a ++ b) (length a + i) 0)) (λ i. square (get_or b i 0)) (λ i h. ap square (get_or-append-add a b i 0)))

-- the norm of a table
pub norm-table : (n : ℕ) (f : ℕ → ℕ) → norm (table n f) ≡ Σ n (λ i. square (f i))
unfolding norm
norm-table n f = ap (λ k. Σ k (λ i. square (get_or (table n f) i 0))) (length-table n f)
    ∙ Σ_ext n (λ i. square (get_or (table n f) i 0)) (λ i. square (f i)) (λ i h. ap square (get_or-table n f i 0 h))

-- the norm of elements adds up
pub norm_of_additive : Additive Element norm_of
unfolding flat
norm_of_additive = additive_flat_map words norm norm_additive

-- the norm of one element
pub norm_of-one : (e : Element) → norm_of (e ∷ []) ≡ norm (words e)
unfolding flat flat_map
norm_of-one e = ap norm (append-nil (words e))

-- the norm of a table of elements
pub norm_of-table : (n : ℕ) (f : ℕ → Element) → norm_of (table n f) ≡ Σ n (λ m. norm (words (f m)))
norm_of-table n f = additive_table norm_of norm_of_additive n f ∙ Σ_ext n (λ m. norm_of (f m ∷ [])) (λ m. norm (words (f m))) (λ m h. norm_of-one (f m))

-- the words of a digit of an element
pub words-digit : (b : ℕ) (e : Element) (k : ℕ) → words (digit_element b e k) ≡ digit_row b (words e) k
unfolding digit_row
words-digit b e k = words-element (digit_row b (words e) k) (table_element (λ j. digit b (coeff (words e) j) k) (λ j. digit_of-canonical b (coeff (words e) j) k (coeff-canonical e j)))

-- the words of the rest of an element
pub words-rest : (b : ℕ) (e : Element) → words (rest_element b e) ≡ rest_row b (words e)
unfolding rest_row
words-rest b e = words-element (rest_row b (words e)) (table_element (λ j. rest b (coeff (words e) j)) (λ j. rest_of-canonical b (coeff (words e) j) (coeff-canonical e j)))

-- the norm of the two parts of a table of elements
pub parts_of-table : (b n : ℕ) (f : ℕ → Element) → norm_of (flat_map (two_parts b) (table n f)) ≡ Σ n (λ m. two_parts_norm b (f m))
unfolding flat_map
parts_of-table b n f =
    additive_table (λ es. norm_of (flat_map (two_parts b) es)) (additive_flat_map (two_parts b) norm_of norm_of_additive) n f
    ∙ Σ_ext n (λ m. norm_of (flat_map (two_parts b) (f m ∷ []))) (λ m. two_parts_norm b (f m)) (λ m h.
    norm_of_additive.joined (digit_element b (f m) 0 ∷ []) (rest_element b (f m) ∷ [])
    ∙ ap₂ ◌+◌ (norm_of-one (digit_element b (f m) 0) ∙ ap norm (words-digit b (f m) 0)) (norm_of-one (rest_element b (f m)) ∙ ap norm (words-rest b (f m))))

-- the norm of the digits of elements adds up
pub digits_additive : (b parts : ℕ) → Additive Element (λ es. norm_of (digits_of b parts es))
unfolding digits_of
digits_additive b parts = additive_flat_map (λ e. table parts (digit_element b e)) norm_of norm_of_additive

-- the norm of the digits of one element
pub digits_of-one : (b parts : ℕ) (e : Element) → norm_of (digits_of b parts (e ∷ [])) ≡ digits_norm b parts e
unfolding digits_of flat_map
digits_of-one b parts e =
    ap norm_of (append-nil (table parts (digit_element b e)))
    ∙ additive_table norm_of norm_of_additive parts (digit_element b e)
    ∙ Σ_ext parts (λ q. norm_of (digit_element b e q ∷ [])) (λ q. norm (digit_row b (words e) q)) (λ q h. norm_of-one (digit_element b e q) ∙ ap norm (words-digit b e q))

-- the norm of the digits of a table of elements
pub digits_of-table : (b parts n : ℕ) (f : ℕ → Element) → norm_of (digits_of b parts (table n f)) ≡ Σ n (λ m. digits_norm b parts (f m))
digits_of-table b parts n f =
    additive_table (λ es. norm_of (digits_of b parts es)) (digits_additive b parts) n f
    ∙ Σ_ext n (λ m. norm_of (digits_of b parts (f m ∷ []))) (λ m. digits_norm b parts (f m)) (λ m h. digits_of-one b parts (f m))

-- the norm of the digits of tables of elements joined
pub digits_of_tables : (b parts n : ℕ) (w : ℕ → ℕ) (f : ℕ → ℕ → Element) → norm_of (digits_of b parts (cat n (λ i. table (w i) (f i)))) ≡ Σ n (λ i. Σ (w i) (λ k. digits_norm b parts (f i k)))
digits_of_tables b parts n w f =
    additive_cat (λ es. norm_of (digits_of b parts es)) (digits_additive b parts) n (λ i. table (w i) (f i))
    ∙ Σ_ext n (λ i. norm_of (digits_of b parts (table (w i) (f i)))) (λ i. Σ (w i) (λ k. digits_norm b parts (f i k))) (λ i h. digits_of-table b parts (w i) (f i))

-- the norm of the digits of rows of elements
pub digits_of-rows : (b parts r m : ℕ) (f : ℕ → ℕ → Element) → norm_of (digits_of b parts (rows r m f)) ≡ Σ r (λ i. Σ m (λ k. digits_norm b parts (f i k)))
unfolding rows
digits_of-rows b parts r m f = digits_of_tables b parts r (λ i. m) f

-- the norm of the digits of a triangle of elements
pub digits_of-triangle : (b parts r : ℕ) (f : ℕ → ℕ → Element) → norm_of (digits_of b parts (triangle r f)) ≡ Σ r (λ i. Σ (i + 1) (λ j. digits_norm b parts (f i j)))
unfolding triangle
digits_of-triangle b parts r f = digits_of_tables b parts r (λ i. i + 1) f
