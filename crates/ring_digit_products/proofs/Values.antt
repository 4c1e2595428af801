-- The sums of products of words with digits of which half the base was added, and what the words lack of Q times it, are the ring product's coefficients.
use mathlib.Core.Path.{◌≡◌, sym, ◌∙◌, ap}
use mathlib.Core.List.{List}
use Prim.Native.Nat.{ℕ, ◌+◌, ◌-◌, ◌*◌, ◌/◌, ◌%◌, ◌≤◌, ◌<◌, ◌^◌}
use native.Mathlib.Nat.{mul-le-mul}
use native.Mathlib.Omega.{arith}
use lib.ListN.{length, get_or}
use Rattle.math.specs.lists.Table.{table}
use Rattle.math.specs.lists.Part.{part}
use Rattle.math.specs.lists.Sum.{Σ}
use Rattle.math.proofs.lists.Table.{get_or-table}
use Rattle.math.proofs.lists.Splice.{get_d_part}
use Rattle.math.proofs.lists.Sum.{Σ-add, Σ-mul-left, Σ-mod_ext, Σ-bound}
use Rattle.spec_leaves.specs.Zq.{Q, zsub}
use Rattle.ring_digit_products.specs.Small.{times_Q, lift_q}
use Rattle.spec_leaves.specs.Rq.{coeff, low, high, rmul}
use Rattle.spec_leaves.specs.Ring.{words, element}
use Rattle.spec_leaves.proofs.RqRing.{rq_ring}
use Rattle.spec_leaves.proofs.Bridge.{words-element, element-rmul, rmul-element}
use Rattle.spec_leaves.proofs.Modulo.{add_remainder}
use Rattle.ring_rq_product.specs.Product.{AllWords, extended, extended_coeff, reversed}
use Rattle.ring_rq_product.specs.Sums.{Added}
use Rattle.ring_rq_product.proofs.Coefficient.{coefficient}
use Rattle.ring_digit_products.specs.Forms.{shifted_coeff, shifted}
use Rattle.ring_digit_products.specs.Small.{products_sum, complement, Factors}

-- the ring product commutes
pub rmul_comm : (a b : List ℕ) → rmul a b ≡ rmul b a
rmul_comm a b =
    sym (words-element (rmul a b) (rmul-element a b))
    ∙ ap words (element-rmul a b ∙ rq_ring.mul_comm (element a) (element b) ∙ sym (element-rmul b a))
    ∙ words-element (rmul b a) (rmul-element b a)

-- equal up to multiples of Q
multiples : (s t u w : ℕ) → s + Q * u ≡ t + Q * w → s % Q ≡ t % Q
multiples s t u w e = omega arith

-- a product with a number of which h was added, and what the word lacks of Q times h, is the product
shifted-term : (x e h : ℕ) → x ≤ 4294967295 → (h * (lift_q - x) + x * ((e + h) % Q)) % Q ≡ x * e % Q
shifted-term x e h l =
    let q = (e + h) / Q in
    let r = (e + h) % Q in
    let whole : e + h ≡ Q * q + r = omega arith in
    let lack : lift_q - x + x ≡ lift_q = omega arith in
    multiples (h * (lift_q - x) + x * r) (x * e) (x * q) (h * times_Q) (omega (arith, ap (λ t. x * t) whole, ap (λ t. h * t) lack))

module _ (a b x y : List ℕ) (at half : ℕ) (ex : x ≡ reversed b) (ey : part y at 128 ≡ shifted half a) (words-a : (i : ℕ) → i < 64 → coeff a i < 2 ^ 32) (words-x : AllWords x) (n : length x ≡ 64) where
  -- entry k + 1 + i of the form
  form_at : (k i : ℕ) → k < 64 → i < 64 → get_or y (at + k + 1 + i) 0 ≡ (get_or (extended a) (k + 1 + i) 0 + half) % Q
  unfolding shifted extended
  form_at k i h l =
      let place : at + k + 1 + i ≡ at + (k + 1 + i) = omega arith in
      ap (λ j. get_or y j 0) place
      ∙ sym (get_d_part 0 y at 128 (k + 1 + i) (omega arith))
      ∙ ap (λ f. get_or f (k + 1 + i) 0) ey
      ∙ get_or-table 128 (shifted_coeff half a) (k + 1 + i) 0 (omega arith)
      ∙ ap (λ e. (e + half) % Q) (sym (get_or-table 128 (extended_coeff a) (k + 1 + i) 0 (omega arith)))

  -- the sum for coefficient k is the product's
  sum_at : (k : ℕ) → k < 64 → (complement x half + products_sum x y (at + k + 1)) % Q ≡ coeff (rmul a b) k
  unfolding rmul
  sum_at k h =
      let lacking : ℕ → ℕ = λ i. half * (lift_q - get_or x i 0) in
      let product : ℕ → ℕ = λ i. get_or x i 0 * get_or y (at + k + 1 + i) 0 in
      let plain : ℕ → ℕ = λ i. get_or x i 0 * get_or (extended a) (k + 1 + i) 0 in
      ap (λ s. (s + products_sum x y (at + k + 1)) % Q) (sym (Σ-mul-left 64 half (λ i. lift_q - get_or x i 0)))
      ∙ ap (λ s. s % Q) (sym (Σ-add 64 lacking product))
      ∙ Σ-mod_ext 64 Q (λ i. lacking i + product i) plain
      (λ i l. ap (λ f. (half * (lift_q - get_or x i 0) + get_or x i 0 * f) % Q) (form_at k i h l)
      ∙ shifted-term (get_or x i 0) (get_or (extended a) (k + 1 + i) 0) half (omega (arith, words-x i (omega arith))))
      ∙ ap (λ z. Σ 64 (λ i. get_or z i 0 * get_or (extended a) (k + 1 + i) 0) % Q) ex
      ∙ coefficient a b words-a k h
      ∙ sym (get_or-table 64 (λ k. zsub (low a b k) (high a b k)) k 0 h)

-- 64 products with small numbers sum to at most 2^54
pub sum-small : (x y : List ℕ) (at n start place : ℕ) → Factors x y at n start → at ≤ place → place + 64 ≤ at + n → products_sum x y place ≤ 2 ^ 54
sum-small x y at n start place f l h =
    Σ-bound 64 (4294967296 * 65536) (λ i. get_or x i 0 * get_or y (place + i) 0) (λ i m.
    let q : place + i ≡ at + (place - at + i) = omega arith in
    let u : get_or x i 0 ≤ 4294967296 = omega (arith, f.words i (omega (arith, f.count))) in
    let v : get_or y (place + i) 0 ≤ 65536 = omega (arith, ap (λ j. get_or y j 0) q, f.small (place - at + i) (omega arith)) in
    mul-le-mul u v)

-- such sums added to others: the ring product is added
pub product_added : (sums a b x y result : List ℕ) (at half : ℕ) → x ≡ reversed b → part y at 128 ≡ shifted half a → ((i : ℕ) → i < 64 → coeff a i < 2 ^ 32)
    → Factors x y at 128 (complement x half) → result ≡ table 64 (λ k. get_or sums k 0 + (complement x half + products_sum x y (at + k + 1)))
    → Added (2 ^ 55) sums (rmul b a) result
product_added sums a b x y result at half ex ey wa f e =
    let added : ℕ → ℕ = λ k. get_or sums k 0 + (complement x half + products_sum x y (at + k + 1)) in
    let read : (k : ℕ) → k < 64 → get_or result k 0 ≡ added k = λ k h. ap (λ r. get_or r k 0) e ∙ get_or-table 64 added k 0 h in record {
      value = λ k h.
          ap (λ v. v % Q) (read k h)
          ∙ add_remainder Q (get_or sums k 0) (complement x half + products_sum x y (at + k + 1)) (coeff (rmul b a) k)
          (sum_at a b x y at half ex ey wa f.words f.count k h ∙ ap (λ r. coeff r k) (rmul_comm a b));
      bound = λ k h. omega (arith, read k h, sum-small x y at 128 (complement x half) (at + k + 1) f (omega arith) (omega arith), f.first);
    }
