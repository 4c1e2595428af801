-- Modulo one prime: the inverse NTT of sums of products of values gives the coefficients of the inner product, plus 512·64·Q².
use mathlib.Core.Path.{◌≡◌, sym, ap, ap₂, subst, ◌∙◌}
use mathlib.Core.List.{List}
use Prim.Native.Nat.{ℕ, ◌+◌, ◌-◌, ◌*◌, ◌%◌, ◌≤◌, ◌<◌, ◌^◌}
use native.Mathlib.Nat as Nat
use native.Mathlib.Omega.{arith}
use lib.ListN.{get_or}
use Rattle.math.specs.lists.Sum.{Σ}
use Rattle.math.proofs.lists.Sum.{Σ-bound}
use Rattle.math.proofs.lists.Table.{get_or-table}
use Rattle.math.specs.algebra.Ops.{Ops, sum}
use Rattle.math.specs.transform.Layers.{pow, exponent, layers}
use Rattle.math.proofs.algebra.Ring.{CRing, ring}
use Rattle.math.proofs.algebra.Sum.{sum_ext, sum-add, sum-neg}
use Rattle.math.proofs.algebra.Antiperiodic.{extend, mul_f, extend_below, extend_anti, mul_F_coefficient}
use Rattle.math.proofs.transform.Evaluation.{eval, eval_mul, eval_sum}
use Rattle.math.proofs.transform.Layers.{layers_eval, point_hom, point_anti}
use Rattle.math.proofs.transform.Computed.{agree}
use Rattle.spec_leaves.specs.Rq.{coeff, low, high}
use Rattle.ntt_layers.specs.Fold.{prime}
use Rattle.ntt_layers.specs.Words.{remainders_of}
use Rattle.ntt_layers.proofs.Residues.{Below, res, ModOps, mod_ring, res_less, res_reduced, res_add, res_mul, res_sub, res_Σ}
use Rattle.ntt_layers.proofs.Folds.{prime_pos}
use Rattle.ntt_transform.specs.Roots.{delta, opposite, twiddle_table}
use Rattle.ntt_transform.specs.Transforms.{inverse_transform_of}
use Rattle.ntt_transform.proofs.Roots.{prime_of, positive, root_in, root_half, twiddle-pow, inverse-pow, twiddles_fit, inverses_fit}
use Rattle.ntt_transform.proofs.Laws.{forward_bound, inverse-layers-bound, res_forward, res_inverse}
use Rattle.ntt_product.specs.NttForm.{ntt_of, sums_of, inverse64, most_products, offset_Q, offset, scaled_of}

module _ (O : Ops) (R : CRing O) where
  open O use {Carrier, add as ◌⊕◌, mul as ◌⊗◌, neg, one}

  infixl 60 ◌⊕◌
  infixl 70 ◌⊗◌
  -- ucv = c where uv = 1
  cancelled : (u c v : Carrier) → u ⊗ v ≡ one → u ⊗ c ⊗ v ≡ c
  cancelled u c v e = turn u c v ∙ ap (λ z. c ⊗ z) e ∙ R.mul-one c
    where
      turn : (u c v : Carrier) → u ⊗ c ⊗ v ≡ c ⊗ (u ⊗ v)
      turn u c v = simp (ring, R)

  -- l − h + o = l + o − h
  order : (l h o : Carrier) → l ⊕ neg h ⊕ o ≡ l ⊕ o ⊕ neg h
  order l h o = simp (ring, R)

-- each entry is a word
abbrev pub Words : List ℕ → Type 0
Words a = (k : ℕ) → k < 64 → coeff a k ≤ 4294967295

-- the factors and the offsets are what they are called
inverse_is : (i : ℕ) → i < 3 → 1 + 63 * prime_of i ≡ 64 * inverse64 i
inverse_is i h = agree 3 (λ i. 1 + 63 * prime_of i) (λ i. 64 * inverse64 i) tt i h

offset_is : (i : ℕ) → i < 3 → offset i ≡ offset_Q % prime_of i
offset_is i h = agree 3 offset (λ i. offset_Q % prime_of i) tt i h

-- a value is below twice the prime
pub value-bound : (i : ℕ) → i < 3 → (a : List ℕ) → Words a → (k : ℕ) → k < 64 → get_or (ntt_of i a) k 0 ≤ 134285152
unfolding ntt_of
value-bound i hi a wa k h = forward_bound (delta i) (opposite i) twiddle_table (192 * i) (twiddles_fit i hi) a (λ k l. omega (arith, wa k l)) k h

-- so are 512 products in a u64
pub product_small : (x y : ℕ) → x ≤ 134285152 → y ≤ 134285152 → x * y ≤ 18032502047663104
product_small x y hx hy = omega (arith, Nat.mul-le-mul {n₁ = x} {m₁ = y} {n₂ = 134285152} {m₂ = 134285152} hx hy)

module _ (i : ℕ) (hi : i < 3) (n : ℕ) (hn : n ≤ most_products) (a b : ℕ → List ℕ) (wa : (m : ℕ) → Words (a m)) (wb : (m : ℕ) → Words (b m)) where
  open ModOps (prime_of i) (positive i) use {Carrier, add as ◌⊕◌, mul as ◌⊗◌, neg, one}

  infixl 60 ◌⊕◌
  infixl 70 ◌⊗◌
  -- the ring of remainders by prime i, and a number in it
  abbrev O : Ops
  O = ModOps (prime_of i) (positive i)

  abbrev r : ℕ → Below (prime_of i)
  r x = res (prime_of i) (positive i) x

  -- the elements in R[X]/(X^64 + 1)
  A : ℕ → ℕ → Below (prime_of i)
  A m = extend O 64 (λ k. r (coeff (a m) k))

  B : ℕ → ℕ → Below (prime_of i)
  B m = extend O 64 (λ k. r (coeff (b m) k))

  -- the coefficients of the inner product
  C : ℕ → Below (prime_of i)
  C k = sum O n (λ m. mul_f O 64 (A m) (B m) k)

  -- the powers at entry k
  P : ℕ → ℕ → Below (prime_of i)
  P k j = pow O (root_in i) (exponent 6 k * j)

  -- term m of sum k
  unfoldable pub term : ℕ → ℕ → ℕ
  term k m = get_or (ntt_of i (a m)) k 0 * get_or (ntt_of i (b m)) k 0

  pub sums_at : (k : ℕ) → k < 64 → get_or (sums_of i n a b) k 0 ≡ Σ n (term k)
  unfolding sums_of term
  sums_at k h = get_or-table 64 (λ k. Σ n (λ m. get_or (ntt_of i (a m)) k 0 * get_or (ntt_of i (b m)) k 0)) k 0 h

  term-bound : (k m : ℕ) → k < 64 → term k m ≤ 18032502047663104
  unfolding term
  term-bound k m h = product_small (get_or (ntt_of i (a m)) k 0) (get_or (ntt_of i (b m)) k 0) (value-bound i hi (a m) (wa m) k h) (value-bound i hi (b m) (wb m) k h)

  pub sums-bound : (k : ℕ) → k < 64 → get_or (sums_of i n a b) k 0 ≤ n * 18032502047663104
  sums-bound k h = subst (λ x. x ≤ n * 18032502047663104) (sym (sums_at k h)) (Σ-bound n 18032502047663104 (term k) (λ m l. term-bound k m h))

  pub sums-fit : (k : ℕ) → k < 64 → get_or (sums_of i n a b) k 0 < 2 ^ 64
  sums-fit k h = omega (arith, sums-bound k h)

  -- a value in the ring
  value_is : (c : List ℕ) → Words c → (k : ℕ) → k < 64 → r (get_or (ntt_of i c) k 0) ≡ eval O 64 (P k) (extend O 64 (λ j. r (coeff c j)))
  unfolding ntt_of eval P
  value_is c wc k h =
      res_forward (delta i) (opposite i) twiddle_table (192 * i) (twiddles_fit i hi) (positive i) (root_in i) (root_half i hi) (λ j t hj ht. twiddle-pow i j t hi hj ht) c
      (λ k l. omega (arith, wc k l)) k h
      ∙ sum_ext O 64 (λ j. r (coeff c j) ⊗ pow O (root_in i) (exponent 6 k * j)) (λ j. extend O 64 (λ j. r (coeff c j)) j ⊗ pow O (root_in i) (exponent 6 k * j))
      (λ j l. ap (λ x. x ⊗ pow O (root_in i) (exponent 6 k * j)) (sym (extend_below O (mod_ring (prime_of i) (positive i)) 64 (omega arith) (λ j. r (coeff c j)) j l)))

  -- the sums are the values of the inner product
  sums-values : (k : ℕ) → k < 64 → r (get_or (sums_of i n a b) k 0) ≡ layers O (root_in i) 6 C k
  unfolding C A B P term
  sums-values k h =
      ap r (sums_at k h)
      ∙ res_Σ (prime_of i) (positive i) n (term k)
      ∙ sum_ext O n (λ m. r (term k m)) (λ m. eval O 64 (P k) (mul_f O 64 (A m) (B m))) (λ m l. each m)
      ∙ sym (eval_sum O (mod_ring (prime_of i) (positive i)) 64 (P k) (point_hom O (mod_ring (prime_of i) (positive i)) (root_in i) (root_half i hi) k)
      (point_anti O (mod_ring (prime_of i) (positive i)) (root_in i) (root_half i hi) k h) n (λ m. mul_f O 64 (A m) (B m)))
      ∙ sym (layers_eval O (mod_ring (prime_of i) (positive i)) (root_in i) (root_half i hi) C k h)
    where
      each : (m : ℕ) → r (term k m) ≡ eval O 64 (P k) (mul_f O 64 (A m) (B m))
      each m =
          res_mul (prime_of i) (positive i) (get_or (ntt_of i (a m)) k 0) (get_or (ntt_of i (b m)) k 0)
          ∙ ap₂ ◌⊗◌ (value_is (a m) (wa m) k h) (value_is (b m) (wb m) k h)
          ∙ sym (eval_mul O (mod_ring (prime_of i) (positive i)) 64 (P k) (point_hom O (mod_ring (prime_of i) (positive i)) (root_in i) (root_half i hi) k)
          (point_anti O (mod_ring (prime_of i) (positive i)) (root_in i) (root_half i hi) k h) (A m) (B m)
          (extend_anti O (mod_ring (prime_of i) (positive i)) 64 (omega arith) (λ j. r (coeff (b m) j))))

  -- a coefficient of one product
  product_at : (m k : ℕ) → k < 64 → mul_f O 64 (A m) (B m) k ≡ r (low (a m) (b m) k) ⊕ neg (r (high (a m) (b m) k))
  unfolding A B low high
  product_at m k h =
      mul_F_coefficient O (mod_ring (prime_of i) (positive i)) 64 (omega arith) (A m) (B m) (extend_anti O (mod_ring (prime_of i) (positive i)) 64 (omega arith) (λ j. r (coeff (b m) j))) k h
      ∙ ap₂ (λ x y. x ⊕ neg y) (sums (k + 1) (λ j. j) (λ j. k - j) (λ j l. omega arith) (λ j l. omega arith)) (sums (63 - k) (λ j. k + 1 + j) (λ j. 63 - j) (λ j l. omega arith) (λ j l. omega arith))
    where
      sums : (c : ℕ) (u v : ℕ → ℕ) → ((j : ℕ) → j < c → u j < 64) → ((j : ℕ) → j < c → v j < 64)
          → sum O c (λ j. A m (u j) ⊗ B m (v j)) ≡ r (Σ c (λ j. coeff (a m) (u j) * coeff (b m) (v j)))
      sums c u v hu hv =
          sum_ext O c (λ j. A m (u j) ⊗ B m (v j)) (λ j. r (coeff (a m) (u j) * coeff (b m) (v j)))
          (λ j l. ap₂ ◌⊗◌ (extend_below O (mod_ring (prime_of i) (positive i)) 64 (omega arith) (λ j. r (coeff (a m) j)) (u j) (hu j l))
          (extend_below O (mod_ring (prime_of i) (positive i)) 64 (omega arith) (λ j. r (coeff (b m) j)) (v j) (hv j l))
          ∙ sym (res_mul (prime_of i) (positive i) (coeff (a m) (u j)) (coeff (b m) (v j))))
          ∙ sym (res_Σ (prime_of i) (positive i) c (λ j. coeff (a m) (u j) * coeff (b m) (v j)))

  -- a coefficient of the inner product
  inner_at : (k : ℕ) → k < 64 → C k ≡ r (Σ n (λ m. low (a m) (b m) k)) ⊕ neg (r (Σ n (λ m. high (a m) (b m) k)))
  unfolding C
  inner_at k h =
      sum_ext O n (λ m. mul_f O 64 (A m) (B m) k) (λ m. r (low (a m) (b m) k) ⊕ neg (r (high (a m) (b m) k))) (λ m l. product_at m k h)
      ∙ sum-add O (mod_ring (prime_of i) (positive i)) n (λ m. r (low (a m) (b m) k)) (λ m. neg (r (high (a m) (b m) k)))
      ∙ ap₂ ◌⊕◌ (sym (res_Σ (prime_of i) (positive i) n (λ m. low (a m) (b m) k)))
      (sum-neg O (mod_ring (prime_of i) (positive i)) n (λ m. r (high (a m) (b m) k)) ∙ ap neg (sym (res_Σ (prime_of i) (positive i) n (λ m. high (a m) (b m) k))))

  -- the remainder of a coefficient plus 512·64·Q², which is x
  pub scaled_at : (k x : ℕ) → k < 64 → x + Σ n (λ m. high (a m) (b m) k) ≡ Σ n (λ m. low (a m) (b m) k) + offset_Q
      → get_or (scaled_of i (sums_of i n a b)) k 0 ≡ x % prime_of i
  unfolding scaled_of remainders_of
  scaled_at k x h e =
      get_or-table 64 (λ k. (get_or (inverse_transform_of (delta i) (opposite i) twiddle_table (576 + 192 * i) (sums_of i n a b)) k 0 * inverse64 i + offset i) % prime_of i) k 0 h
      ∙ ap (λ (y : Below (prime_of i)). y.0) whole
    where
      L : ℕ
      L = Σ n (λ m. low (a m) (b m) k)

      H : ℕ
      H = Σ n (λ m. high (a m) (b m) k)

      back : ℕ
      back = get_or (inverse_transform_of (delta i) (opposite i) twiddle_table (576 + 192 * i) (sums_of i n a b)) k 0

      unit : r 64 ⊗ r (inverse64 i) ≡ one
      unit = sym (res_mul (prime_of i) (positive i) 64 (inverse64 i)) ∙ sym (res_less (prime_of i) (positive i) 1 (64 * inverse64 i) 63 (inverse_is i hi))

      same : x + H ≡ L + offset_Q + 0 * prime_of i
      same = e ∙ sym (ap (λ z. L + offset_Q + z) (Nat.zero-mul (prime_of i)) ∙ Nat.add-zero (L + offset_Q))

      whole : r (back * inverse64 i + offset i) ≡ r x
      whole =
          res_add (prime_of i) (positive i) (back * inverse64 i) (offset i)
          ∙ ap₂ ◌⊕◌
          (res_mul (prime_of i) (positive i) back (inverse64 i)
          ∙ ap (λ z. z ⊗ r (inverse64 i))
          (res_inverse (delta i) (opposite i) twiddle_table (576 + 192 * i) (inverses_fit i hi) (positive i) (root_in i) (root_half i hi) (λ j t hj ht. inverse-pow i j t hi hj ht)
          (sums_of i n a b) sums-fit C sums-values k h)
          ∙ cancelled O (mod_ring (prime_of i) (positive i)) (r 64) (C k) (r (inverse64 i)) unit
          ∙ inner_at k h)
          (ap r (offset_is i hi) ∙ res_reduced (prime_of i) (positive i) offset_Q)
          ∙ order O (mod_ring (prime_of i) (positive i)) (r L) (r H) (r offset_Q)
          ∙ ap (λ z. z ⊕ neg (r H)) (sym (res_add (prime_of i) (positive i) L offset_Q))
          ∙ sym (res_sub (prime_of i) (positive i) (L + offset_Q) H x 0 same)

-- the inverse NTT stays below three times the prime
pub inverse-small : (i : ℕ) → i < 3 → (s : List ℕ) → ((k : ℕ) → k < 64 → get_or s k 0 < 2 ^ 64) → (k : ℕ) → k < 64
    → get_or (inverse_transform_of (delta i) (opposite i) twiddle_table (576 + 192 * i) s) k 0 ≤ 285600000
unfolding inverse_transform_of
inverse-small i hi s sums k h = inverse-layers-bound (delta i) (opposite i) twiddle_table (576 + 192 * i) (inverses_fit i hi) s sums 6 (omega arith) k h

-- remainders are below the prime
pub remainders_below : (d factor offset : ℕ) (x : List ℕ) → d ≤ 2175 → (k : ℕ) → k < 64 → get_or (remainders_of d factor offset x) k 0 < prime d
unfolding remainders_of
remainders_below d factor offset x s k h =
    subst (λ y. y < prime d) (sym (get_or-table 64 (λ k. (get_or x k 0 * factor + offset) % prime d) k 0 h)) (Nat.mod-lt (get_or x k 0 * factor + offset) (prime_pos d s))
