-- The inverse NTT of sums of products of values is the inner product modulo Q, for up to 512 elements.
use mathlib.Core.Path.{◌≡◌, refl, sym, ap, ap₂, subst, ◌∙◌}
use mathlib.Core.List.{List}
use Prim.Native.Nat.{ℕ, ◌+◌, ◌-◌, ◌*◌, ◌/◌, ◌%◌, ◌≤◌, ◌<◌}
use native.Mathlib.Nat as Nat
use native.Mathlib.Omega.{arith}
use lib.ListN.{get_or, replicate, length-replicate, get_or-replicate}
use Rattle.math.specs.lists.Table.{table}
use Rattle.math.specs.lists.Sum.{Σ}
use Rattle.math.proofs.lists.Sum.{Σ-bound, Σ-suc}
use Rattle.math.proofs.lists.Table.{get_or-table, table_ext, is_table}
use Rattle.spec_leaves.specs.Zq.{Q, lack_Q, zsub}
use Rattle.spec_leaves.specs.Rq.{coeff, low, high, rmul}
use Rattle.spec_leaves.proofs.Suited.{suited, offset-above}
use Rattle.ntt_product.specs.Crt.{crt_of, crt_all_of}
use Rattle.ntt_product.specs.NttForm.{ProductsFit, ntt_of, values_added, sums_of, most_products, offset_Q, scaled_of, inverse_ntt_of}
use Rattle.ntt_product.proofs.CrtLaws.{crt_is}
use Rattle.ntt_product.proofs.Residue.{Words, value-bound, product_small, sums-bound, scaled_at}

-- the product of two words
words_product : (x y : ℕ) → x ≤ 4294967295 → y ≤ 4294967295 → x * y ≤ 18446744065119617025
words_product x y hx hy = omega (arith, Nat.mul-le-mul {n₁ = x} {m₁ = y} {n₂ = 4294967295} {m₂ = 4294967295} hx hy)

-- both sums of a coefficient of one product
low-bound : (a b : List ℕ) → Words a → Words b → (k : ℕ) → k < 64 → low a b k ≤ 64 * 18446744065119617025
unfolding low
low-bound a b wa wb k h =
    omega (arith, Σ-bound (k + 1) 18446744065119617025 (λ i. coeff a i * coeff b (k - i)) (λ i l. words_product (coeff a i) (coeff b (k - i)) (wa i (omega arith)) (wb (k - i) (omega arith))))

high-bound : (a b : List ℕ) → Words a → Words b → (k : ℕ) → k < 64 → high a b k ≤ 63 * 18446744065119617025
unfolding high
high-bound a b wa wb k h =
    omega (
      arith,
      Σ-bound (63 - k) 18446744065119617025 (λ i. coeff a (k + 1 + i) * coeff b (63 - i))
          (λ i l. words_product (coeff a (k + 1 + i)) (coeff b (63 - i)) (wa (k + 1 + i) (omega arith)) (wb (63 - i) (omega arith))),
    )

-- l − h modulo Q, by way of a number that is l − h + 512·64·Q²
difference : (l h : ℕ) → h < offset_Q → (l + (offset_Q - h)) % Q ≡ zsub l h
difference l h s =
    ap (λ x. x % Q) (sym (whole (h % Q) (h / Q) (omega arith) (omega arith)))
    ∙ Nat.add-mul-mod_self_left (l + (Q - h % Q)) Q ((most_products * 64 * Q - 1) - h / Q)
  where
    whole : (r q : ℕ) → Q * q + r ≡ h → r < Q → l + (Q - r) + Q * ((most_products * 64 * Q - 1) - q) ≡ l + (offset_Q - h)
    whole r q e b = omega arith

module _ (n : ℕ) (hn : n ≤ most_products) (a b : ℕ → List ℕ) (wa : (m : ℕ) → Words (a m)) (wb : (m : ℕ) → Words (b m)) where
  -- the inner product
  pub inverse_is : inverse_ntt_of (sums_of 0 n a b) (sums_of 1 n a b) (sums_of 2 n a b) ≡ table 64 (λ k. zsub (Σ n (λ m. low (a m) (b m) k)) (Σ n (λ m. high (a m) (b m) k)))
  unfolding inverse_ntt_of crt_all_of
  inverse_is =
      table_ext 64 (λ k. crt_of (get_or (scaled_of 0 (sums_of 0 n a b)) k 0) (get_or (scaled_of 1 (sums_of 1 n a b)) k 0) (get_or (scaled_of 2 (sums_of 2 n a b)) k 0))
      (λ k. zsub (Σ n (λ m. low (a m) (b m) k)) (Σ n (λ m. high (a m) (b m) k))) at
    where
      at : (k : ℕ) → k < 64
          → crt_of (get_or (scaled_of 0 (sums_of 0 n a b)) k 0) (get_or (scaled_of 1 (sums_of 1 n a b)) k 0) (get_or (scaled_of 2 (sums_of 2 n a b)) k 0)
          ≡ zsub (Σ n (λ m. low (a m) (b m) k)) (Σ n (λ m. high (a m) (b m) k))
      at k h =
          let hl : Σ n (λ m. low (a m) (b m) k) ≤ n * (64 * 18446744065119617025) = Σ-bound n (64 * 18446744065119617025) (λ m. low (a m) (b m) k) (λ m l. low-bound (a m) (b m) (wa m) (wb m) k h) in
          let hh : Σ n (λ m. high (a m) (b m) k) ≤ n * (63 * 18446744065119617025) = Σ-bound n (63 * 18446744065119617025) (λ m. high (a m) (b m) k)
          (λ m l. high-bound (a m) (b m) (wa m) (wb m) k h) in
          joined k h (Σ n (λ m. low (a m) (b m) k)) (Σ n (λ m. high (a m) (b m) k)) refl refl (omega arith) (omega (arith, offset-above lack_Q suited))
        where
          joined : (k : ℕ) → k < 64 → (L H : ℕ) → L ≡ Σ n (λ m. low (a m) (b m) k) → H ≡ Σ n (λ m. high (a m) (b m) k) → L ≤ most_products * (64 * 18446744065119617025) → H < offset_Q
              → crt_of (get_or (scaled_of 0 (sums_of 0 n a b)) k 0) (get_or (scaled_of 1 (sums_of 1 n a b)) k 0) (get_or (scaled_of 2 (sums_of 2 n a b)) k 0) ≡ zsub L H
          joined k h L H eL eH bl bh =
              let e : L + (offset_Q - H) + Σ n (λ m. high (a m) (b m) k) ≡ Σ n (λ m. low (a m) (b m) k) + offset_Q = omega arith in
              crt_is (L + (offset_Q - H)) (get_or (scaled_of 0 (sums_of 0 n a b)) k 0) (get_or (scaled_of 1 (sums_of 1 n a b)) k 0) (get_or (scaled_of 2 (sums_of 2 n a b)) k 0)
              (omega arith)
              (scaled_at 0 (omega arith) n hn a b wa wb k (L + (offset_Q - H)) h e)
              (scaled_at 1 (omega arith) n hn a b wa wb k (L + (offset_Q - H)) h e)
              (scaled_at 2 (omega arith) n hn a b wa wb k (L + (offset_Q - H)) h e)
              ∙ difference L H bh

  -- one more product
  pub sums_next : (i : ℕ) → i < 3 → values_added (sums_of i n a b) (ntt_of i (a n)) (ntt_of i (b n)) ≡ sums_of i (n + 1) a b
  unfolding values_added sums_of
  sums_next i hi =
      table_ext 64 (λ k. get_or (sums_of i n a b) k 0 + get_or (ntt_of i (a n)) k 0 * get_or (ntt_of i (b n)) k 0) (λ k. Σ (n + 1) (λ m. get_or (ntt_of i (a m)) k 0 * get_or (ntt_of i (b m)) k 0))
      (λ k h. ap (λ x. x + get_or (ntt_of i (a n)) k 0 * get_or (ntt_of i (b n)) k 0) (get_or-table 64 (λ k. Σ n (λ m. get_or (ntt_of i (a m)) k 0 * get_or (ntt_of i (b m)) k 0)) k 0 h)
      ∙ sym (Σ-suc n (λ m. get_or (ntt_of i (a m)) k 0 * get_or (ntt_of i (b m)) k 0)))

  -- for which there is room
  pub sums-room : (i : ℕ) → i < 3 → ProductsFit (sums_of i n a b) (ntt_of i (a n)) (ntt_of i (b n))
  sums-room i hi k h =
      omega (
        arith,
        sums-bound i hi n hn a b wa wb k h,
        product_small (get_or (ntt_of i (a n)) k 0) (get_or (ntt_of i (b n)) k 0) (value-bound i hi (a n) (wa n) k h)
            (value-bound i hi (b n) (wb n) k h),
      )

-- no products
pub no_sums : (i : ℕ) (a b : ℕ → List ℕ) → replicate 64 0 ≡ sums_of i 0 a b
unfolding sums_of Σ
no_sums i a b = let z : ℕ = 0 in is_table 64 (replicate 64 z) (λ k. z) z (length-replicate 64 z) (λ k l. get_or-replicate 64 k z z l)

-- one product
pub one_product : (a b : List ℕ) → Words a → Words b → inverse_ntt_of (sums_of 0 1 (λ m. a) (λ m. b)) (sums_of 1 1 (λ m. a) (λ m. b)) (sums_of 2 1 (λ m. a) (λ m. b)) ≡ rmul a b
unfolding rmul Σ
one_product a b wa wb =
    inverse_is 1 (omega arith) (λ m. a) (λ m. b) (λ m. wa) (λ m. wb)
    ∙ table_ext 64 (λ k. zsub (0 + low a b k) (0 + high a b k)) (λ k. zsub (low a b k) (high a b k)) (λ k h. ap₂ zsub (Nat.zero-add (low a b k)) (Nat.zero-add (high a b k)))

-- the first product: lists by what they hold
module _ (i : ℕ) (hi : i < 3) (a b s x y : List ℕ) (wa : Words a) (wb : Words b) (es : s ≡ replicate 64 0) (ex : x ≡ ntt_of i a) (ey : y ≡ ntt_of i b) where
  pub first-room : ProductsFit s x y
  first-room =
      subst (λ l. ProductsFit l x y) (sym (es ∙ no_sums i (λ m. a) (λ m. b)))
      (subst (λ l. ProductsFit (sums_of i 0 (λ m. a) (λ m. b)) l y) (sym ex)
      (subst (λ l. ProductsFit (sums_of i 0 (λ m. a) (λ m. b)) (ntt_of i a) l) (sym ey) (sums-room 0 (omega arith) (λ m. a) (λ m. b) (λ m. wa) (λ m. wb) i hi)))

  pub first-sums : (r : List ℕ) → r ≡ values_added s x y → r ≡ sums_of i 1 (λ m. a) (λ m. b)
  first-sums r e =
      e ∙ ap (λ l. values_added l x y) (es ∙ no_sums i (λ m. a) (λ m. b)) ∙ ap₂ (values_added (sums_of i 0 (λ m. a) (λ m. b))) ex ey
      ∙ sums_next 0 (omega arith) (λ m. a) (λ m. b) (λ m. wa) (λ m. wb) i hi
