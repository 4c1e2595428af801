-- The sums of products of values: one product more, and what they come to.
use mathlib.Core.Path.{◌≡◌, refl, sym, ap, ap₂, ◌∙◌}
use mathlib.Core.List.{List}
use Prim.Native.Nat.{ℕ, zero, suc, ◌+◌, ◌-◌, ◌*◌, ◌%◌, ◌≤◌, ◌<◌}
use native.Mathlib.Nat as Nat
use native.Mathlib.Decide.{dec_lt}
use native.Mathlib.Omega.{arith}
use lib.ListN.{length, get_or, replicate, length-replicate, get_or-replicate}
use Rattle.math.specs.lists.Table.{table}
use Rattle.math.specs.lists.Sum.{Σ}
use Rattle.math.proofs.lists.Table.{length-table, get_or-table, table_ext, is_table}
use Rattle.math.proofs.lists.Sum.{Σ-suc, Σ_ext, Σ-bound}
use Rattle.math.specs.algebra.Ops.{dot}
use Rattle.math.proofs.algebra.Sum.{sum_ext}
use Rattle.spec_leaves.specs.Zq.{Q, zsub}
use Rattle.spec_leaves.specs.Rq.{coeff, low, high, rmul}
use Rattle.spec_leaves.specs.Ring.{RqOps, words, element}
use Rattle.spec_leaves.proofs.Bridge.{words-sum, words-element, element-rmul, rmul-element}
use Rattle.ntt_product.specs.NttForm.{sums_of, most_products, inverse_ntt_of}
use Rattle.ntt_product.proofs.Residue.{product_small}
use Rattle.ntt_product.proofs.Inner.{inverse_is}
use Rattle.ntt_vectors.specs.NttForm.{SumsRoom, values_added, value_sums, Values}

-- no product yet
pub sums_none : (x : List ℕ) (x-at : ℕ) (y : List ℕ) (y-at : ℕ) → replicate 64 0 ≡ value_sums x x-at y y-at 0
unfolding value_sums Σ
sums_none x x-at y y-at = let z : ℕ = 0 in is_table 64 (replicate 64 z) (λ k. z) z (length-replicate 64 z) (λ k l. get_or-replicate 64 k z z l)

-- 64 of them
pub length-sums : (x : List ℕ) (x-at : ℕ) (y : List ℕ) (y-at n : ℕ) → length (value_sums x x-at y y-at n) ≡ 64
unfolding value_sums
length-sums x x-at y y-at n = length-table 64 (λ k. Σ n (λ m. get_or x (x-at + 192 * m + k) 0 * get_or y (y-at + 192 * m + k) 0))

module _ (x : List ℕ) (x-at : ℕ) (y : List ℕ) (y-at m : ℕ) where
  -- sum k
  abbrev term : ℕ → ℕ → ℕ
  term k i = get_or x (x-at + 192 * i + k) 0 * get_or y (y-at + 192 * i + k) 0

  pub sum_at : (k : ℕ) → k < 64 → get_or (value_sums x x-at y y-at m) k 0 ≡ Σ m (term k)
  unfolding value_sums
  sum_at k h = get_or-table 64 (λ k. Σ m (term k)) k 0 h

  -- one more product
  pub sums_next : (sums next : List ℕ) (i j : ℕ) → sums ≡ value_sums x x-at y y-at m → i ≡ x-at + 192 * m → j ≡ y-at + 192 * m → next ≡ values_added sums x i y j
      → next ≡ value_sums x x-at y y-at (m + 1)
  unfolding value_sums values_added
  sums_next sums next i j s p q e =
      e
      ∙ table_ext 64 (λ k. get_or sums k 0 + get_or x (i + k) 0 * get_or y (j + k) 0) (λ k. Σ (m + 1) (term k))
      (λ k h. ap₂ (λ a b. a + b) (ap (λ l. get_or l k 0) s ∙ sum_at k h) (ap₂ (λ a b. get_or x (a + k) 0 * get_or y (b + k) 0) p q) ∙ sym (Σ-suc m (term k)))

  -- for which there is room
  pub sums-room : (n : ℕ) → Values x x-at n → Values y y-at n → n ≤ 64 → m < n → (sums : List ℕ) (i j : ℕ) → sums ≡ value_sums x x-at y y-at m → i ≡ x-at + 192 * m → j ≡ y-at + 192 * m
      → SumsRoom sums x i y j
  sums-room n vx vy few h sums i j s p q k l =
      let small : (o : ℕ) → o < n → term k o ≤ 18032502047663104 = λ o b. product_small (get_or x (x-at + 192 * o + k) 0) (get_or y (y-at + 192 * o + k) 0) (vx.small o k b l) (vy.small o k b l) in
      let total : Σ m (term k) ≤ m * 18032502047663104 = Σ-bound m 18032502047663104 (term k) (λ o b. small o (omega arith)) in
      let sum : get_or sums k 0 ≡ Σ m (term k) = ap (λ a. get_or a k 0) s ∙ sum_at k l in
      let last : get_or x (i + k) 0 * get_or y (j + k) 0 ≡ term k m = ap₂ (λ a b. get_or x (a + k) 0 * get_or y (b + k) 0) p q in
      omega (arith, small m h)

-- two numbers taken off modulo Q, one after the other or together
taken_off : (c r t : ℕ) → r < Q → t < Q → (c + (Q - r) + (Q - t)) % Q ≡ (c + (Q - (r + t) % Q)) % Q
taken_off c r t hr ht = go (dec_lt (r + t) Q)
  where
    go : Dec (r + t < Q) → (c + (Q - r) + (Q - t)) % Q ≡ (c + (Q - (r + t) % Q)) % Q
    go (yes l) =
        let e : (r + t) % Q ≡ r + t = omega arith in
        let f : c + (Q - r) + (Q - t) ≡ c + (Q - (r + t)) + Q = omega arith in
        ap (λ x. x % Q) f ∙ Nat.add-mod_right (c + (Q - (r + t))) Q ∙ ap (λ x. (c + (Q - x)) % Q) (sym e)
    go (no l) =
        let e : (r + t) % Q ≡ r + t - Q = omega arith in
        let f : c + (Q - r) + (Q - t) ≡ c + (Q - (r + t - Q)) = omega arith in
        ap (λ x. x % Q) f ∙ ap (λ x. (c + (Q - x)) % Q) (sym e)

-- differences modulo Q add up
differences : (n : ℕ) (f g : ℕ → ℕ) → Σ n (λ m. zsub (f m) (g m)) % Q ≡ zsub (Σ n f) (Σ n g)
unfolding Σ
differences zero f g = refl
differences (suc n) f g = step (Σ n (λ m. zsub (f m) (g m))) (Σ n f) (Σ n g) (f n) (g n) (differences n f g)
  where
    joined : (s y x : ℕ) → s % Q ≡ y % Q → (s + x % Q) % Q ≡ (y + x) % Q
    joined s y x e = omega arith

    step : (s l h a b : ℕ) → s % Q ≡ (l + (Q - h % Q)) % Q
        → (s + (a + (Q - b % Q)) % Q) % Q ≡ (l + a + (Q - (h + b) % Q)) % Q
    step s l h a b e =
        let order : l + (Q - h % Q) + (a + (Q - b % Q)) ≡ l + a + (Q - h % Q) + (Q - b % Q) = omega arith in
        let sum : (h % Q + b % Q) % Q ≡ (h + b) % Q = omega arith in
        joined s (l + (Q - h % Q)) (a + (Q - b % Q)) e
        ∙ ap (λ x. x % Q) order
        ∙ taken_off (l + a) (h % Q) (b % Q) (omega arith) (omega arith)
        ∙ ap (λ x. (l + a + (Q - x)) % Q) sum

-- both sums of each coefficient of n products, reduced once, are the inner product's words
products-words : (n : ℕ) (a b : ℕ → List ℕ) → table 64 (λ k. zsub (Σ n (λ m. low (a m) (b m) k)) (Σ n (λ m. high (a m) (b m) k))) ≡ words (dot RqOps n (λ m. element (a m)) (λ m. element (b m)))
unfolding dot
products-words n a b =
    sym
    (ap words (sum_ext RqOps n (λ m. RqOps.mul (element (a m)) (element (b m))) (λ m. element (rmul (a m) (b m))) (λ m l. sym (element-rmul (a m) (b m))))
    ∙ words-sum n (λ m. element (rmul (a m) (b m)))
    ∙ table_ext 64 (λ k. Σ n (λ m. coeff (words (element (rmul (a m) (b m)))) k) % Q) (λ k. zsub (Σ n (lows k)) (Σ n (highs k)))
    (λ k h. ap (λ s. s % Q) (Σ_ext n (λ m. coeff (words (element (rmul (a m) (b m)))) k) (λ m. zsub (lows k m) (highs k m)) (λ m l. one k h m)) ∙ differences n (lows k) (highs k)))
  where
    lows : ℕ → ℕ → ℕ
    lows k m = low (a m) (b m) k

    highs : ℕ → ℕ → ℕ
    highs k m = high (a m) (b m) k

    one : (k : ℕ) → k < 64 → (m : ℕ) → coeff (words (element (rmul (a m) (b m)))) k ≡ zsub (lows k m) (highs k m)
    one k h m =
        ap (λ l. coeff l k) (words-element (rmul (a m) (b m)) (rmul-element (a m) (b m)))
        ∙ (unfold rmul in get_or-table 64 (λ k. zsub (low (a m) (b m) k) (high (a m) (b m) k)) k 0 h)

-- the inverse NTT of the sums of n products of values gives the inner product's words
pub inverse-words : (n : ℕ) → n ≤ most_products → (a b : ℕ → List ℕ) → ((m k : ℕ) → k < 64 → coeff (a m) k ≤ 4294967295) → ((m k : ℕ) → k < 64 → coeff (b m) k ≤ 4294967295)
    → inverse_ntt_of (sums_of 0 n a b) (sums_of 1 n a b) (sums_of 2 n a b) ≡ words (dot RqOps n (λ m. element (a m)) (λ m. element (b m)))
inverse-words n few a b wa wb = inverse_is n few a b (λ m k l. wa m k l) (λ m k l. wb m k l) ∙ products-words n a b
