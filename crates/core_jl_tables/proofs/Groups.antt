-- The omega part of φ'' for four k at once: the sums of four rows' terms, modulo Q, and what is added to the columns' sums.
use Rattle.std.proofs.Common.{◌≡◌, ℕ, zero, suc, ◌+◌, ◌*◌, ◌/◌, ◌%◌, ◌<◌, ◌≤◌, cond, ltb, List, get_or, replicate, sym, refl, ap, ◌∙◌, ap₂, add-zero, add_assoc, mul-le-mul_right}
use Rattle.std.proofs.Common.{arith, le-ltb, lt-ltb}
use lib.ListN.{get_or-replicate}
use Rattle.math.specs.lists.Sum.{Σ}
use Rattle.math.specs.lists.Table.{table}
use Rattle.math.proofs.lists.Sum.{Σ-suc}
use Rattle.math.proofs.lists.Table.{get_or-table}
use Rattle.spec_leaves.specs.Zq.{Q, zneg}
use Rattle.spec_leaves.specs.Projection.{entry}
use Rattle.spec_leaves.proofs.Cases.{ltb_cases}
use Rattle.spec_leaves.proofs.Modulo.{add-mod}
use Rattle.ring_zq.proofs.Words.{lowered-le, lowered-mod}
use Rattle.core_jl.specs.Rows.{term}
use Rattle.core_jl_transpose.specs.Omega.{carried, omega_element}
use Rattle.core_jl_tables.specs.Pairs.{pair_number, pair_sum, pair_entry, pair_table, lowered_sum, four_entry, four_place, tables_entry, row_tables, row_term, biased, Added}
use Rattle.core_jl_tables.specs.Fours.{Summed, summed_element}
use Rattle.core_jl.proofs.Terms.{term-le, term-mod}
use Rattle.core_jl_transpose.proofs.Columns.{carried-word, carried-mod, conjugated_columns}

-- the upper two bits of a projection word fix its entry
entry-number : (u : ℕ) → entry (u / 1073741824 * 1073741824) ≡ entry u
entry-number u =
    ltb_cases (λ t. entry v ≡ cond t (zneg 1) (cond (ltb u 2147483648) 1 0)) u 1073741824
    (λ l. ap (λ t. cond t (zneg 1) (cond (ltb v 2147483648) 1 0)) (lt-ltb v 1073741824 (omega arith)))
    (λ l.
    ap (λ t. cond t (zneg 1) (cond (ltb v 2147483648) 1 0)) (le-ltb v 1073741824 (omega arith))
    ∙ ltb_cases (λ t. ◌≡◌ {A = ℕ} (cond (ltb v 2147483648) 1 0) (cond t 1 0)) u 2147483648
    (λ m. ap (λ t. cond t 1 0) (lt-ltb v 2147483648 (omega arith)))
    (λ m. ap (λ t. cond t 1 0) (le-ltb v 2147483648 (omega arith))))
  where
    v : ℕ
    v = u / 1073741824 * 1073741824

-- a term by the entry's number
number-mod : (u d w : ℕ) → d ≡ u / 1073741824 → w ≤ 4294967295 → term (d * 1073741824) w % Q ≡ (entry u * w) % Q
number-mod u d w e h = ap (λ d. term (d * 1073741824) w % Q) e ∙ term-mod (u / 1073741824 * 1073741824) w h ∙ ap (λ e. (e * w) % Q) (entry-number u)

-- four more terms of a sum
four_terms : (n : ℕ) (f : ℕ → ℕ) → Σ n f + (f n + f (n + 1) + (f (n + 1 + 1) + f (n + 1 + 1 + 1))) ≡ Σ (n + 1 + 1 + 1 + 1) f
four_terms n f = omega (arith, Σ-suc n f, Σ-suc (n + 1) f, Σ-suc (n + 1 + 1) f, Σ-suc (n + 1 + 1 + 1) f)

-- four more terms of a sum at a time, modulo Q
groups_mod : (a b : ℕ) (f F : ℕ → ℕ) (m : ℕ) → b % Q ≡ Σ (4 * a) f % Q
    → ((t : ℕ) → t < m → F t % Q ≡ (f (4 * (a + t)) + f (4 * (a + t) + 1) + (f (4 * (a + t) + 1 + 1) + f (4 * (a + t) + 1 + 1 + 1))) % Q) → (b + Σ m F) % Q ≡ Σ (4 * (a + m)) f % Q
unfolding Σ
groups_mod a b f F zero s h = ap (λ x. x % Q) (add-zero b) ∙ s ∙ ap (λ n. Σ (4 * n) f % Q) (sym (add-zero a))
groups_mod a b f F (suc m) s h =
    let next : 4 * (a + m) + 1 + 1 + 1 + 1 ≡ 4 * (a + suc m) = omega arith in
    ap (λ x. x % Q) (sym (add_assoc b (Σ m F) (F m)))
    ∙ add-mod Q (b + Σ m F) (F m) (Σ (4 * (a + m)) f) four (groups_mod a b f F m s (λ t l. h t (omega arith))) (h m (omega arith))
    ∙ ap (λ x. x % Q) (four_terms (4 * (a + m)) f)
    ∙ ap (λ n. Σ n f % Q) next
  where
    four : ℕ
    four = f (4 * (a + m)) + f (4 * (a + m) + 1) + (f (4 * (a + m) + 1 + 1) + f (4 * (a + m) + 1 + 1 + 1))

below : (x : ℕ) → x ≤ 4294967295 → x < 4294967296
below x h = omega arith

module _ (R : List ℕ) (h : (i : ℕ) → get_or R i 0 ≤ 4294967295) where
  -- the sum of two rows' terms modulo Q
  pair-mod : (at a step x : ℕ) → x ≡ pair_number R a step → pair_sum R at x % Q ≡ (entry (get_or R a 0) * get_or R at 0 + entry (get_or R (a + step) 0) * get_or R (at + 1) 0) % Q
  pair-mod at a step x e =
      let small = h a in
      let first : x % 4 ≡ get_or R a 0 / 1073741824 = omega arith in
      let second : x / 4 ≡ get_or R (a + step) 0 / 1073741824 = omega arith in
      carried-mod (term (x % 4 * 1073741824) (get_or R at 0)) (term (x / 4 * 1073741824) (get_or R (at + 1) 0))
      ∙ add-mod Q
      (term (x % 4 * 1073741824) (get_or R at 0))
      (term (x / 4 * 1073741824) (get_or R (at + 1) 0))
      (entry (get_or R a 0) * get_or R at 0)
      (entry (get_or R (a + step) 0) * get_or R (at + 1) 0)
      (number-mod (get_or R a 0) (x % 4) (get_or R at 0) first (h at))
      (number-mod (get_or R (a + step) 0) (x / 4) (get_or R (at + 1) 0) second (h (at + 1)))

  -- an entry of the pairs' sums
  pair_at : (om p x k q : ℕ) → q ≡ 64 * p + 4 * x + k → p < 2 → x < 16 → k < 4 → get_or (table 128 (pair_entry R om)) q 0 ≡ pair_sum R (om + p * 2 + k * 256) x
  pair_at om p x k q e a b c =
      let which : q / 64 ≡ p = omega arith in
      let rest : q % 4 ≡ k = omega arith in
      let quarter : q / 4 ≡ 16 * p + x = omega arith in
      let number : q / 4 % 16 ≡ x = ap (λ y. y % 16) quarter ∙ within in
      get_or-table 128 (pair_entry R om) q 0 (omega arith) ∙ ap₂ (λ u v. pair_sum R (om + u * 2 + v * 256) (q / 4 % 16)) which rest ∙ ap (pair_sum R (om + p * 2 + k * 256)) number
    where
      within : (16 * p + x) % 16 ≡ x
      within = omega arith

  -- a product at equal places
  product_at : (u v x y : ℕ) → u ≡ x → v ≡ y → entry (get_or R u 0) * get_or R v 0 ≡ entry (get_or R x 0) * get_or R y 0
  product_at u v x y e f = ap₂ (λ u v. entry (get_or R u 0) * get_or R v 0) e f

  module _ (pi om width g c k : ℕ) (few : k < 4) where
    -- row j's entry of column c times its omega for k
    abbrev product : ℕ → ℕ
    product j = entry (get_or R (pi + j * width + c) 0) * get_or R (om + k * 256 + j) 0

    abbrev pairs : List ℕ
    pairs = table 128 (pair_entry R (om + 4 * g))

    -- the first two rows of group g
    first-mod : get_or pairs (4 * pair_number R (pi + 4 * g * width + c) width + k) 0 % Q ≡ (product (4 * g) + product (4 * g + 1)) % Q
    first-mod =
        let small = h (pi + 4 * g * width + c) in
        let next = h (pi + 4 * g * width + c + width) in
        ap (λ x. x % Q) (pair_at (om + 4 * g) 0 (pair_number R (pi + 4 * g * width + c) width) k (4 * pair_number R (pi + 4 * g * width + c) width + k) (omega arith) (omega arith) (omega arith) few)
        ∙ pair-mod (om + 4 * g + 0 * 2 + k * 256) (pi + 4 * g * width + c) width (pair_number R (pi + 4 * g * width + c) width) refl
        ∙ ap₂ (λ x y. (x + y) % Q)
        (product_at (pi + 4 * g * width + c) (om + 4 * g + 0 * 2 + k * 256) (pi + 4 * g * width + c) (om + k * 256 + 4 * g) refl (omega arith))
        (product_at (pi + 4 * g * width + c + width) (om + 4 * g + 0 * 2 + k * 256 + 1) (pi + (4 * g + 1) * width + c) (om + k * 256 + (4 * g + 1)) (omega arith) (omega arith))

    -- and the other two
    second-mod : get_or pairs (64 + 4 * pair_number R (pi + 4 * g * width + 2 * width + c) width + k) 0 % Q ≡ (product (4 * g + 1 + 1) + product (4 * g + 1 + 1 + 1)) % Q
    second-mod =
        let small = h (pi + 4 * g * width + 2 * width + c) in
        let next = h (pi + 4 * g * width + 2 * width + c + width) in
        ap (λ x. x % Q)
        (pair_at (om + 4 * g) 1 (pair_number R (pi + 4 * g * width + 2 * width + c) width) k (64 + 4 * pair_number R (pi + 4 * g * width + 2 * width + c) width + k)
        (omega arith) (omega arith) (omega arith) few)
        ∙ pair-mod (om + 4 * g + 1 * 2 + k * 256) (pi + 4 * g * width + 2 * width + c) width (pair_number R (pi + 4 * g * width + 2 * width + c) width) refl
        ∙ ap₂ (λ x y. (x + y) % Q)
        (product_at (pi + 4 * g * width + 2 * width + c) (om + 4 * g + 1 * 2 + k * 256) (pi + (4 * g + 1 + 1) * width + c) (om + k * 256 + (4 * g + 1 + 1)) (omega arith) (omega arith))
        (product_at (pi + 4 * g * width + 2 * width + c + width) (om + 4 * g + 1 * 2 + k * 256 + 1) (pi + (4 * g + 1 + 1 + 1) * width + c) (om + k * 256 + (4 * g + 1 + 1 + 1))
        (omega arith) (omega arith))

    -- what group g adds to the sum of column c for k
    group_mod : (x : ℕ)
        → x
        ≡ lowered_sum (get_or pairs (4 * pair_number R (pi + 4 * g * width + c) width + k) 0) (get_or pairs (64 + 4 * pair_number R (pi + 4 * g * width + 2 * width + c) width + k) 0)
        → x % Q ≡ (product (4 * g) + product (4 * g + 1) + (product (4 * g + 1 + 1) + product (4 * g + 1 + 1 + 1))) % Q
    group_mod x e =
        ap (λ x. x % Q) e
        ∙ lowered-mod (carried first second)
        ∙ carried-mod first second
        ∙ add-mod Q first second (product (4 * g) + product (4 * g + 1)) (product (4 * g + 1 + 1) + product (4 * g + 1 + 1 + 1)) first-mod second-mod
      where
        first : ℕ
        first = get_or pairs (4 * pair_number R (pi + 4 * g * width + c) width + k) 0

        second : ℕ
        second = get_or pairs (64 + 4 * pair_number R (pi + 4 * g * width + 2 * width + c) width + k) 0

  -- the entries of table t for a number x + 16·y and k
  table_at : (om t x y k : ℕ) → t < 4 → x < 16 → y < 16 → k < 4
      → get_or (row_tables R om) (1024 * t + 4 * (x + 16 * y) + k) 0
      ≡ lowered_sum (get_or (table 128 (pair_entry R (om + 4 * t))) (4 * x + k) 0) (get_or (table 128 (pair_entry R (om + 4 * t))) (64 + 4 * y + k) 0)
  table_at om t x y k ht hx hy hk =
      let which : (1024 * t + 4 * (x + 16 * y) + k) / 1024 ≡ t = omega arith in
      let place : (1024 * t + 4 * (x + 16 * y) + k) % 1024 ≡ 4 * (x + 16 * y) + k = omega arith in
      let low : (4 * (x + 16 * y) + k) % 64 ≡ 4 * x + k = omega arith in
      let high : 64 + 4 * ((4 * (x + 16 * y) + k) / 64) + (4 * (x + 16 * y) + k) % 4 ≡ 64 + 4 * y + k = omega arith in
      get_or-table 4096 (tables_entry R om) (1024 * t + 4 * (x + 16 * y) + k) 0 (omega arith)
      ∙ ap₂ (λ u v. four_entry (table 128 (pair_entry R (om + 4 * u))) v) which place
      ∙ ap₂ (λ p q. lowered_sum (get_or (table 128 (pair_entry R (om + 4 * t))) p 0) (get_or (table 128 (pair_entry R (om + 4 * t))) q 0)) low high

  -- a pair's sum is a word
  pair-word : (o q : ℕ) → q < 128 → get_or (pair_table R o) q 0 < 4294967296
  pair-word o q l =
      let at : ℕ = o + q / 64 * 2 + q % 4 * 256 in
      rw (get_or-table 128 (pair_entry R o) q 0 l) (carried-word _ _ (below _ (term-le (q / 4 % 16 % 4 * 1073741824) _ (h at))) (below _ (term-le (q / 4 % 16 / 4 * 1073741824) _ (h (at + 1)))))

  -- what the tables give is at most Q
  pub tables_small : (om i : ℕ) → i < 4096 → get_or (row_tables R om) i 0 ≤ Q
  tables_small om i l =
      let o : ℕ = om + 4 * (i / 1024) in
      rw (get_or-table 4096 (tables_entry R om) i 0 l) (lowered-le _ (carried-word _ _ (pair-word o (i % 1024 % 64) (omega arith))
      (pair-word o (64 + 4 * (i % 1024 / 64) + i % 1024 % 4) (omega arith))))

  -- the number of two words' entries is below 16
  pair-below : (at step : ℕ) → pair_number R at step < 16
  pair-below at step = omega (arith, h at, h (at + step))

  -- what table t gives for the sum of column c and k
  row_term_at : (pi om width g c k t : ℕ) → k < 4 → t < 4
      → row_term R (pi + 16 * g * width) width (row_tables R (om + 16 * g)) (4 * c + k) t
      ≡ lowered_sum (get_or (table 128 (pair_entry R (om + 4 * (4 * g + t)))) (4 * pair_number R (pi + 4 * (4 * g + t) * width + c) width + k) 0)
      (get_or (table 128 (pair_entry R (om + 4 * (4 * g + t)))) (64 + 4 * pair_number R (pi + 4 * (4 * g + t) * width + 2 * width + c) width + k) 0)
  row_term_at pi om width g c k t few less =
      let column : (4 * c + k) / 4 ≡ c = omega arith in
      let rest : (4 * c + k) % 4 ≡ k = omega arith in
      let first : row + 4 * t * width + c ≡ pi + 4 * (4 * g + t) * width + c = omega arith in
      let second : row + 4 * t * width + c + 2 * width ≡ pi + 4 * (4 * g + t) * width + 2 * width + c = omega arith in
      let start : om + 16 * g + 4 * t ≡ om + 4 * (4 * g + t) = omega arith in
      ap₂ (λ u v. get_or (row_tables R (om + 16 * g)) (1024 * t + four_place R (row + 4 * t * width + u) width + v) 0) column rest
      ∙ table_at (om + 16 * g) t (pair_number R (row + 4 * t * width + c) width) (pair_number R (row + 4 * t * width + c + 2 * width) width) k less
      (pair-below (row + 4 * t * width + c) width)
      (pair-below (row + 4 * t * width + c + 2 * width) width)
      few
      ∙ ap (λ o. lowered_sum (get_or (table 128 (pair_entry R o)) (4 * pair_number R (row + 4 * t * width + c) width + k) 0)
      (get_or (table 128 (pair_entry R o)) (64 + 4 * pair_number R (row + 4 * t * width + c + 2 * width) width + k) 0))
      start
      ∙ ap₂ (λ a b. lowered_sum (get_or (table 128 (pair_entry R (om + 4 * (4 * g + t)))) (4 * pair_number R a width + k) 0)
      (get_or (table 128 (pair_entry R (om + 4 * (4 * g + t)))) (64 + 4 * pair_number R b width + k) 0))
      first
      second
    where
      row : ℕ
      row = pi + 16 * g * width

  -- the sums after 16 more rows
  pub group_summed : (pi om width g : ℕ) (tables before after : List ℕ) → tables ≡ row_tables R (om + 16 * g) → Summed R pi om width (16 * g) before
      → Added R (pi + 16 * g * width) width tables before after → Summed R pi om width (16 * (g + 1)) after
  group_summed pi om width g tables before after e s added c k column few =
      let rows : 16 * g ≡ 4 * (4 * g) = omega arith in
      let next : 4 * (4 * g + 4) ≡ 16 * (g + 1) = omega arith in
      added (4 * c + k) (omega arith)
      ∙ ap (λ l. (biased (get_or before (4 * c + k) 0) + Σ 4 (row_term R (pi + 16 * g * width) width l (4 * c + k))) % Q) e
      ∙ groups_mod (4 * g) (biased (get_or before (4 * c + k) 0)) f (row_term R (pi + 16 * g * width) width (row_tables R (om + 16 * g)) (4 * c + k)) 4
      (s c k column few ∙ ap (λ m. Σ m f % Q) rows)
      (λ t less.
      group_mod pi om width (4 * g + t) c k few (row_term R (pi + 16 * g * width) width (row_tables R (om + 16 * g)) (4 * c + k) t) (row_term_at pi om width g c k t few less))
      ∙ ap (λ m. Σ m f % Q) next
    where
      f : ℕ → ℕ
      f j = entry (get_or R (pi + j * width + c) 0) * get_or R (om + k * 256 + j) 0

-- 16 rows end before the 256 rows do
pub group_within : (g width : ℕ) → g < 16 → 16 * g * width + 16 * width ≤ 256 * width
group_within g width h = let rows : 16 * g + 16 ≤ 256 = omega arith in omega (arith, mul-le-mul_right width rows)

-- no rows are summed at first
pub none_summed : (R : List ℕ) (pi om width : ℕ) (sums : List ℕ) → width ≤ 4096 → sums ≡ replicate 16384 2147483648 → Summed R pi om width (16 * 0) sums
unfolding Σ
none_summed R pi om width sums w e c k column few =
    ap (λ l. biased (get_or l (4 * c + k) 0) % Q) e ∙ ap (λ x. biased x % Q) (get_or-replicate 16384 (4 * c + k) 2147483648 0 (omega arith))

-- all rows are summed
pub all_summed : (R : List ℕ) (pi om width rows : ℕ) (sums : List ℕ) → rows ≡ 256 → Summed R pi om width rows sums → Summed R pi om width 256 sums
all_summed R pi om width rows sums e s c k column few =
    s c k column few ∙ ap (λ m. Σ m (λ j. entry (get_or R (pi + j * width + c) 0) * get_or R (om + k * 256 + j) 0) % Q) e

-- the elements of the sums of all rows are the omega part's
pub summed_is : (R : List ℕ) (pi om n : ℕ) (sums : List ℕ) → Summed R pi om (64 * n) 256 sums → (k m : ℕ) → k < 4 → m < n → summed_element sums k m ≡ omega_element R pi (om + k * 256) n m
summed_is R pi om n sums s k m few within =
    conjugated_columns R pi (om + k * 256) n m (λ w. biased (get_or sums (256 * m + k + 4 * w) 0)) (λ w l.
    let place : 256 * m + k + 4 * w ≡ 4 * (64 * m + w) + k = omega arith in
    ap (λ i. biased (get_or sums i 0) % Q) place ∙ s (64 * m + w) k (omega arith) few)
