-- The cells with a coefficient that has something left (document 02, Item 5): how they add up, that each counts once, and when there are none.
use mathlib.Core.Path.{◌≡◌, refl, sym, ap₂, subst, ◌∙◌}
use mathlib.Core.Bool.{Bool, true, false, cond, decide}
use mathlib.Core.Logic.{◌↔◌}
use mathlib.Core.List.{[], ◌∷◌, ◌++◌, flat_map, List-discrete}
use Prim.Native.Nat.{ℕ, ◌+◌, ◌*◌, ◌≤◌, ◌<◌}
use native.Mathlib.Decide.{ℕ_discrete}
use native.Mathlib.Omega.{arith}
use lib.ListN.{length, length-append}
use Rattle.math.specs.lists.Table.{table, cat}
use Rattle.math.specs.lists.Sum.{Σ}
use Rattle.math.proofs.lists.Table.{table_ext, table_inj}
use Rattle.math.proofs.lists.Sum.{Σ_ext, Σ_zero, Σ_const, Σ-triangle, Σ-le, Σ-bound, Σ-term}
use Rattle.math.proofs.lists.Additive.{Additive, additive_cat, additive_table, additive_flat_map}
use Rattle.spec_leaves.specs.Digits.{leftover}
use Rattle.spec_leaves.specs.Recompose.{Enough, PartsNeeded}
use Rattle.spec_leaves.specs.Rq.{Element, coeff, rzero, is_zero, left_row}
use Rattle.spec_leaves.specs.Ring.{words}
use Rattle.spec_leaves.proofs.Bridge.{coeff-canonical}
use Rattle.spec_leaves.proofs.Recompose.{recompose_iff, enough_more}
use Rattle.spec_protocol.specs.Parameters.{triangular}
use Rattle.spec_protocol.specs.Views.{Public}
use Rattle.spec_protocol.specs.Formulas as F
use Rattle.spec_protocol.specs.Formulas.{nothing_left, one_if_left, count_left, cells_left_of, rows, triangle}
use Rattle.spec_protocol.specs.Conditions.{cells_left}
use Rattle.spec_protocol.specs.CellsBack.{Back, AllBack}

-- the number of cells with something left adds up
count_additive : (b parts : ℕ) → Additive Element (count_left b parts)
unfolding count_left
count_additive b parts = additive_flat_map (λ e. cond (nothing_left b parts e) [] (e ∷ [])) length (record { empty = refl; joined = λ x y. length-append x y })

-- of one cell
count_of-one : (b parts : ℕ) (e : Element) → count_left b parts (e ∷ []) ≡ one_if_left b parts e
unfolding count_left flat_map
count_of-one b parts e = by (nothing_left b parts e)
  where
    by : (t : Bool) → length (cond t [] (e ∷ []) ++ []) ≡ cond t 0 1
    by true = refl
    by false = refl

-- of a table of cells
pub count_of-table : (b parts n : ℕ) (f : ℕ → Element) → count_left b parts (table n f) ≡ Σ n (λ m. one_if_left b parts (f m))
count_of-table b parts n f =
    additive_table (count_left b parts) (count_additive b parts) n f
    ∙ Σ_ext n (λ m. count_left b parts (f m ∷ [])) (λ m. one_if_left b parts (f m)) (λ m h. count_of-one b parts (f m))

-- a cell counts 1 at most
one_at_most : (b parts : ℕ) (e : Element) → one_if_left b parts e ≤ 1
one_at_most b parts e = by (nothing_left b parts e)
  where
    by : (t : Bool) → cond t 0 1 ≤ 1
    by true = omega arith
    by false = omega arith

-- a table of n cells counts n at most
pub count-at_most : (b parts n : ℕ) (f : ℕ → Element) → count_left b parts (table n f) ≤ n
count-at_most b parts n f = omega (arith, count_of-table b parts n f, Σ-bound n 1 (λ m. one_if_left b parts (f m)) (λ m h. one_at_most b parts (f m)))

-- of tables of cells joined
count_of_tables : (b parts n : ℕ) (w : ℕ → ℕ) (f : ℕ → ℕ → Element) → count_left b parts (cat n (λ i. table (w i) (f i))) ≡ Σ n (λ i. Σ (w i) (λ k. one_if_left b parts (f i k)))
count_of_tables b parts n w f =
    additive_cat (count_left b parts) (count_additive b parts) n (λ i. table (w i) (f i))
    ∙ Σ_ext n (λ i. count_left b parts (table (w i) (f i))) (λ i. Σ (w i) (λ k. one_if_left b parts (f i k))) (λ i h. count_of-table b parts (w i) (f i))

-- of rows of cells
count_of-rows : (b parts r m : ℕ) (f : ℕ → ℕ → Element) → count_left b parts (rows r m f) ≡ Σ r (λ i. Σ m (λ k. one_if_left b parts (f i k)))
unfolding rows
count_of-rows b parts r m f = count_of_tables b parts r (λ i. m) f

-- of a triangle of cells
count_of-triangle : (b parts r : ℕ) (f : ℕ → ℕ → Element) → count_left b parts (triangle r f) ≡ Σ r (λ i. Σ (i + 1) (λ j. one_if_left b parts (f i j)))
unfolding triangle
count_of-triangle b parts r f = count_of_tables b parts r (λ i. i + 1) f

-- a cell counts 0 exactly when all its coefficients come back from their digits
none_left : (b parts : ℕ) (e : Element) → 0 < b → (one_if_left b parts e ≡ 0) ↔ Back b parts e
unfolding nothing_left is_zero left_row rzero decide
none_left b parts e p = (λ z. back (List-discrete ℕ_discrete (left_row b parts (words e)) rzero) z, λ all. zeros (List-discrete ℕ_discrete (left_row b parts (words e)) rzero) all)
  where
    back : (d : Dec (left_row b parts (words e) ≡ rzero)) → ◌≡◌ {A = ℕ} (cond (decide d) 0 1) 0 → Back b parts e
    back (yes same) z k l = (recompose_iff b parts (coeff (words e) k) p (coeff-canonical e k)).1 (table_inj 64 (λ j. leftover b parts (coeff (words e) j)) (λ j. 0) same k l)
    back (no other) z k l = absurd (let n : ◌≡◌ {A = ℕ} 1 0 = z in omega arith)

    zeros : (d : Dec (left_row b parts (words e) ≡ rzero)) → Back b parts e → ◌≡◌ {A = ℕ} (cond (decide d) 0 1) 0
    zeros (yes same) all = refl
    zeros (no other) all =
        absurd (other (table_ext 64 (λ j. leftover b parts (coeff (words e) j)) (λ j. 0) (λ k l. (recompose_iff b parts (coeff (words e) k) p (coeff-canonical e k)).0 (all k l))))

-- a sum over two indexes is 0 exactly when each term is
sum_zero : (n : ℕ) (w : ℕ → ℕ) (f : ℕ → ℕ → ℕ) → (Σ n (λ i. Σ (w i) (f i)) ≡ 0) ↔ ((i k : ℕ) → i < n → k < w i → f i k ≡ 0)
sum_zero n w f = (
  λ z i k l m. omega (arith, Σ-term n (λ i. Σ (w i) (f i)) i l, Σ-term (w i) (f i) k m),
  λ h. Σ_ext n (λ i. Σ (w i) (f i)) (λ i. 0) (λ i l. Σ_ext (w i) (f i) (λ k. 0) (λ k m. h i k l m) ∙ Σ_zero (w i)) ∙ Σ_zero n,
)

-- enough parts bring every cell back
enough_back : (b parts : ℕ) → 0 < b → Enough b parts → (e : Element) → Back b parts e
enough_back b parts p enough e k l = (recompose_iff b parts (coeff (words e) k) p (coeff-canonical e k)).1 (enough (coeff (words e) k) (coeff-canonical e k))

-- terms of at most 1 sum to their number at most
cells_at_most : (n : ℕ) (w : ℕ → ℕ) (f : ℕ → ℕ → ℕ) → ((i k : ℕ) → f i k ≤ 1) → (number : ℕ) → Σ n w ≡ number → Σ n (λ i. Σ (w i) (f i)) ≤ number
cells_at_most n w f one number e =
    omega (arith, Σ-le n (λ i. Σ (w i) (f i)) w (λ i l. omega (arith, Σ-bound (w i) 1 (f i) (λ k m. one i k))))

sums-at_most : {a b c x y z : ℕ} → a ≤ x → b ≤ y → c ≤ z → a + b + c ≤ x + y + z
sums-at_most l m n = omega arith

module _ (X : Public) (t g h : ℕ → ℕ → Element) where
  open X use {P}
  open P use {r, κ, t₁, t₂}

  -- the cells of t, of g and of h that count
  of_t : ℕ
  of_t = Σ r (λ i. Σ κ (λ k. one_if_left P.b t₁ (t i k)))

  of_g : ℕ
  of_g = Σ r (λ i. Σ (i + 1) (λ j. one_if_left P.b t₂ (g i j)))

  of_h : ℕ
  of_h = Σ r (λ i. Σ (i + 1) (λ j. one_if_left P.b t₁ (h i j)))

  three : cells_left_of X t g h ≡ of_t + of_g + of_h
  unfolding cells_left_of of_t of_g of_h
  three = refl

  -- as the code counts them
  pub counted_cells : cells_left_of X t g h ≡ count_left P.b t₁ (rows r κ t) + count_left P.b t₂ (triangle r g) + count_left P.b t₁ (triangle r h)
  unfolding cells_left_of
  counted_cells = sym (ap₂ ◌+◌ (ap₂ ◌+◌ (count_of-rows P.b t₁ r κ t) (count_of-triangle P.b t₂ r g)) (count_of-triangle P.b t₁ r h))

  -- "the number is 0 exactly when t, g and h can be put together again from the digits that were committed to"
  pub none_exactly_when : 0 < P.b → (cells_left_of X t g h ≡ 0) ↔ AllBack X t g h
  unfolding of_t of_g of_h
  none_exactly_when p = (
    λ z.
        let sum : of_t + of_g + of_h ≡ 0 = sym three ∙ z in
        record {
          of_t = λ i k l m. (none_left P.b t₁ (t i k) p).0 ((sum_zero r (λ i. κ) (λ i k. one_if_left P.b t₁ (t i k))).0 (omega arith) i k l m);
          of_g = λ i j l m. (none_left P.b t₂ (g i j) p).0 ((sum_zero r (λ i. i + 1) (λ i j. one_if_left P.b t₂ (g i j))).0 (omega arith) i j l (omega arith));
          of_h = λ i j l m. (none_left P.b t₁ (h i j) p).0 ((sum_zero r (λ i. i + 1) (λ i j. one_if_left P.b t₁ (h i j))).0 (omega arith) i j l (omega arith));
        },
    λ all.
        let t-none : of_t ≡ 0 = (sum_zero r (λ i. κ) (λ i k. one_if_left P.b t₁ (t i k))).1 (λ i k l m. (none_left P.b t₁ (t i k) p).1 (all.of_t i k l m)) in
        let g-none : of_g ≡ 0 = (sum_zero r (λ i. i + 1) (λ i j. one_if_left P.b t₂ (g i j))).1 (λ i j l m. (none_left P.b t₂ (g i j) p).1 (all.of_g i j l (omega arith))) in
        let h-none : of_h ≡ 0 = (sum_zero r (λ i. i + 1) (λ i j. one_if_left P.b t₁ (h i j))).1 (λ i j l m. (none_left P.b t₁ (h i j) p).1 (all.of_h i j l (omega arith))) in
        three ∙ omega arith,
  )

  -- with the parts that the base needs, or more, it is 0
  pub none-with-enough : (parts : ℕ) → 0 < P.b → PartsNeeded P.b parts → parts ≤ t₁ → parts ≤ t₂ → cells_left_of X t g h ≡ 0
  none-with-enough parts p needed l m =
      let back₁ = enough_back P.b t₁ p (enough_more P.b parts t₁ p l needed.enough) in
      let back₂ = enough_back P.b t₂ p (enough_more P.b parts t₂ p m needed.enough) in
      (none_exactly_when p).1 (record { of_t = λ i k a c. back₁ (t i k); of_g = λ i j a c. back₂ (g i j); of_h = λ i j a c. back₁ (h i j) })

  -- each cell counts once: those of t, and of each triangle r·(r + 1)/2
  pub at_most_cells : cells_left_of X t g h ≤ r * κ + triangular r + triangular r
  unfolding of_t of_g of_h
  at_most_cells =
      let t-most : of_t ≤ r * κ = cells_at_most r (λ i. κ) (λ i k. one_if_left P.b t₁ (t i k)) (λ i k. one_at_most P.b t₁ (t i k)) (r * κ) (Σ_const r κ) in
      let g-most : of_g ≤ triangular r = cells_at_most r (λ i. i + 1) (λ i j. one_if_left P.b t₂ (g i j)) (λ i j. one_at_most P.b t₂ (g i j)) (triangular r) (Σ-triangle r) in
      let h-most : of_h ≤ triangular r = cells_at_most r (λ i. i + 1) (λ i j. one_if_left P.b t₁ (h i j)) (λ i j. one_at_most P.b t₁ (h i j)) (triangular r) (Σ-triangle r) in
      subst (λ n. n ≤ r * κ + triangular r + triangular r) (sym three) (sums-at_most t-most g-most h-most)

-- of the cells by the formulas
pub cells_left-by_formulas : (X : Public) (s : ℕ → ℕ → Element) → cells_left X s ≡ cells_left_of X (F.t X s) (F.g X s) (F.h X s)
unfolding cells_left of_t of_g of_h
cells_left-by_formulas X s = sym (three X (F.t X s) (F.g X s) (F.h X s))
