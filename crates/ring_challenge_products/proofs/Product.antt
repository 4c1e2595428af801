-- What the places give is the inner product.
use mathlib.Core.Path.{◌≡◌, refl, sym, ap, subst, ◌∙◌}
use mathlib.Core.Bool.{cond}
use mathlib.Core.List.{List}
use Prim.Native.Nat.{ℕ, zero, suc, ◌+◌, ◌-◌, ◌*◌, ◌%◌, ◌≤◌, ◌<◌}
use native.Mathlib.Decide.{ℕ_discrete}
use native.Mathlib.Nat.{zero-mul}
use native.Mathlib.Omega.{arith}
use borrow.Author.Tests.{lt-ltb, le-ltb}
use lib.Dec.{ltb}
use lib.ListN.{get_or}
use Rattle.math.specs.lists.Table.{table}
use Rattle.math.specs.lists.Sum.{Σ}
use Rattle.math.specs.lists.Part.{part}
use Rattle.math.specs.algebra.Ops.{dot}
use Rattle.math.proofs.lists.Sum.{Σ_ext, Σ-add, Σ_split, Σ_zero, Σ-mod_ext, Σ-term}
use Rattle.math.proofs.lists.Splice.{get_d_part}
use Rattle.math.proofs.lists.Table.{get_or-table, table_ext}
use Rattle.math.proofs.algebra.Dot.{dot_comm}
use Rattle.spec_leaves.specs.Zq.{Q, half_Q, Canonical, zneg, zsub, size}
use Rattle.spec_leaves.specs.Rq.{coeff, low, high, rmul}
use Rattle.spec_leaves.specs.Ring.{RqOps, words}
use Rattle.spec_leaves.proofs.Cases.{ltb_cases}
use Rattle.spec_leaves.proofs.Modulo.{add-mod}
use Rattle.spec_leaves.proofs.RqRing.{rq_ring}
use Rattle.ring_inner_product.specs.Run.{run}
use Rattle.ring_inner_product.proofs.Totals.{totals_dot, product_of}
use Rattle.ring_challenge_products.specs.Powers.{turned, entry, place, Sparse, PowersOf, row_product, powers_product}

-- a canonical value of size 2 at most is one of five
five : (P : ℕ → Type 0) (v : ℕ) → Canonical v → size v ≤ 2 → P 0 → P 1 → P 2 → P (Q - 1) → P (Q - 2) → P v
five P v h small p0 p1 p2 m1 m2 = ltb_cases (λ t. cond t (Q - v) v ≤ 2 → P v) half_Q v minus plus small
  where
    minus : half_Q < v → Q - v ≤ 2 → P v
    minus l s = by (ℕ_discrete v (Q - 1))
      where
        by : Dec (v ≡ Q - 1) → P v
        by (yes e) = subst P (sym e) m1
        by (no n) = let e : Q - 2 ≡ v = omega arith in subst P e m2

    plus : v ≤ half_Q → v ≤ 2 → P v
    plus l s = by (ℕ_discrete v 0) (ℕ_discrete v 1)
      where
        by : Dec (v ≡ 0) → Dec (v ≡ 1) → P v
        by (yes e) d = subst P (sym e) p0
        by (no n) (yes e) = subst P (sym e) p1
        by (no n) (no k) = let e : 2 ≡ v = omega arith in subst P e p2

module _ (a : List ℕ) where
  -- the four parts of the entries
  pub first : (m : ℕ) → m < 64 → turned a m ≡ zneg (coeff a m)
  first m h = ap (λ t. cond t (zneg (coeff a m)) (cond (ltb m 128) (coeff a (m - 64)) (cond (ltb m 192) (zneg (coeff a (m - 128))) 0))) (lt-ltb m 64 h)

  pub second : (m i : ℕ) → m ≡ 64 + i → i < 64 → turned a m ≡ coeff a i
  second m i e h = simp (le-ltb m 64 (omega arith), lt-ltb m 128 (omega arith)) (ap (coeff a) (omega arith))

  pub third : (m i : ℕ) → m ≡ 128 + i → i < 64 → turned a m ≡ zneg (coeff a i)
  third m i e h = simp (le-ltb m 64 (omega arith), le-ltb m 128 (omega arith), lt-ltb m 192 (omega arith)) (ap (λ j. zneg (coeff a j)) (omega arith))

  pub fourth : (m : ℕ) → 192 ≤ m → turned a m ≡ 0
  fourth m h = simp (le-ltb m 64 (omega arith), le-ltb m 128 (omega arith), le-ltb m 192 (omega arith))

  -- an entry and its double
  pub once : (m y : ℕ) → m < 256 → turned a m ≡ y → entry a m ≡ y
  unfolding entry
  once m y h e = ap (λ t. cond t (turned a m) (2 * turned a (m - 256))) (lt-ltb m 256 h) ∙ e

  pub twice : (m i y : ℕ) → m ≡ 256 + i → turned a i ≡ y → entry a m ≡ 2 * y
  unfolding entry
  twice m i y e t =
      let less : m - 256 ≡ i = omega arith in
      ap (λ t. cond t (turned a m) (2 * turned a (m - 256))) (le-ltb m 256 (omega arith)) ∙ ap (λ n. 2 * turned a n) less ∙ ap (λ x. 2 * x) t

  -- the zeros
  pub zeros : (k : ℕ) → k < 64 → entry a (192 + k) ≡ 0
  zeros k h = once (192 + k) 0 (omega arith) (fourth (192 + k) (omega arith))

  -- minus y, and minus y twice
  minus_one : (y : ℕ) → zneg y % Q ≡ (Q - 1) * y % Q
  minus_one y = omega arith

  minus_two : (y : ℕ) → 2 * zneg y % Q ≡ (Q - 2) * y % Q
  minus_two y =
      let e = minus_one y in
      ap (λ x. x % Q) (double (zneg y)) ∙ add-mod Q (zneg y) (zneg y) ((Q - 1) * y) ((Q - 1) * y) e e ∙ whole
    where
      double : (x : ℕ) → 2 * x ≡ x + x
      double x = omega arith

      whole : ((Q - 1) * y + (Q - 1) * y) % Q ≡ (Q - 2) * y % Q
      whole = omega arith

  -- from the place of v·X^j on, coefficient k is v·a_(k − j) where j ≤ k
  term-low : (v j k : ℕ) → Canonical v → size v ≤ 2 → j ≤ k → k < 64 → entry a (place v j + k) % Q ≡ v * coeff a (k - j) % Q
  unfolding place
  term-low v j k h s l m =
      five (λ v. entry a (place v j + k) % Q ≡ v * coeff a (k - j) % Q) v h s
      (ap (λ x. x % Q) (zeros k m ∙ sym (zero-mul (coeff a (k - j)))))
      (ap (λ x. x % Q) (once (64 - j + 0 + k) _ (omega arith) (second (64 - j + 0 + k) (k - j) (omega arith) (omega arith)) ∙ omega arith))
      (ap (λ x. x % Q) (twice (64 - j + 256 + k) (64 - j + k) _ (omega arith) (second (64 - j + k) (k - j) (omega arith) (omega arith))))
      (ap (λ x. x % Q) (once (128 - j + 0 + k) _ (omega arith) (third (128 - j + 0 + k) (k - j) (omega arith) (omega arith))) ∙ minus_one (coeff a (k - j)))
      (ap (λ x. x % Q) (twice (128 - j + 256 + k) (128 - j + k) _ (omega arith) (third (128 - j + k) (k - j) (omega arith) (omega arith))) ∙ minus_two (coeff a (k - j)))

  -- a number less itself
  nothing : (y : ℕ) → (0 + 0 * y) % Q ≡ 0
  nothing y = omega arith

  less_one : (x y : ℕ) → x ≡ zneg y → (x + 1 * y) % Q ≡ 0
  less_one x y e = omega arith

  less_two : (x y : ℕ) → x ≡ 2 * zneg y → (x + 2 * y) % Q ≡ 0
  less_two x y e =
      let u = less_one (zneg y) y refl in
      ap (λ x. x % Q) double ∙ add-mod Q (zneg y + 1 * y) (zneg y + 1 * y) 0 0 u u
    where
      double : x + 2 * y ≡ zneg y + 1 * y + (zneg y + 1 * y)
      double = omega arith

  more_one : (x y : ℕ) → x ≡ y → (x + (Q - 1) * y) % Q ≡ 0
  more_one x y e = omega arith

  more_two : (x y : ℕ) → x ≡ 2 * y → (x + (Q - 2) * y) % Q ≡ 0
  more_two x y e = omega arith

  -- and minus v·a_(64 + k − j) where k < j
  term-high : (v j k i : ℕ) → Canonical v → size v ≤ 2 → j < 64 → i + j ≡ 64 + k → i < 64 → (entry a (place v j + k) + v * coeff a i) % Q ≡ 0
  unfolding place
  term-high v j k i h s l e m =
      five (λ v. (entry a (place v j + k) + v * coeff a i) % Q ≡ 0) v h s
      (ap (λ x. (x + 0 * coeff a i) % Q) (zeros k (omega arith)) ∙ nothing (coeff a i))
      (less_one _ (coeff a i) (once (64 - j + 0 + k) _ (omega arith) (first (64 - j + 0 + k) (omega arith) ∙ ap (λ n. zneg (coeff a n)) (omega arith))))
      (less_two _ (coeff a i) (twice (64 - j + 256 + k) i _ (omega arith) (first i m)))
      (more_one _ (coeff a i) (once (128 - j + 0 + k) _ (omega arith) (second (128 - j + 0 + k) i (omega arith) m)))
      (more_two _ (coeff a i) (twice (128 - j + 256 + k) (128 - j + k) _ (omega arith) (second (128 - j + k) i (omega arith) m)))

  -- sums of both kinds of terms
  both : (total first second lo hi : ℕ) → total ≡ first + second → first % Q ≡ lo % Q → (second + hi) % Q ≡ 0 → total % Q ≡ (lo + (Q - hi % Q)) % Q
  both total first second lo hi t f s = omega arith

  -- the entries from the places of an element on are the product's coefficients
  product_at : (b : List ℕ) → Sparse b → (k : ℕ) → k < 64 → Σ 64 (λ j. entry a (place (coeff b j) j + k)) % Q ≡ coeff (rmul b a) k
  unfolding rmul low high
  product_at b s k h =
      both (Σ 64 term) (Σ (k + 1) term) (Σ (63 - k) (λ i. term (k + 1 + i))) (low b a k) (high b a k)
      (ap (λ n. Σ n term) count ∙ Σ_split (k + 1) (63 - k) term)
      (Σ-mod_ext (k + 1) Q term (λ j. coeff b j * coeff a (k - j)) (λ j l. term-low (coeff b j) j k (s.canonical j (omega arith)) (s.small j (omega arith)) (omega arith) h))
      (ap (λ x. x % Q) (sym (Σ-add (63 - k) (λ i. term (k + 1 + i)) (λ i. coeff b (k + 1 + i) * coeff a (63 - i))))
      ∙ Σ-mod_ext (63 - k) Q (λ i. term (k + 1 + i) + coeff b (k + 1 + i) * coeff a (63 - i)) (λ i. 0)
      (λ i l. term-high (coeff b (k + 1 + i)) (k + 1 + i) k (63 - i) (s.canonical (k + 1 + i) (omega arith)) (s.small (k + 1 + i) (omega arith)) (omega arith) (omega arith) (omega arith))
      ∙ ap (λ x. x % Q) (Σ_zero (63 - k)))
      ∙ sym (get_or-table 64 (λ k. zsub (low b a k) (high b a k)) k 0 h)
    where
      term : ℕ → ℕ
      term j = entry a (place (coeff b j) j + k)

      count : 64 ≡ k + 1 + (63 - k)
      count = omega arith

-- the sum of no terms
Σ_empty : (f : ℕ → ℕ) → Σ zero f ≡ 0
unfolding Σ
Σ_empty f = refl

-- one of 64 sums is at most their sum, that of none is 0
bounded : (r : ℕ) (g : ℕ → ℕ → ℕ) (k : ℕ) → k < 64 → Σ r (g k) ≤ Σ 64 (λ k. Σ r (g k)) * r
bounded zero g k h = few (Σ zero (g k)) _ (Σ_empty (g k))
  where
    few : (x y : ℕ) → x ≡ 0 → x ≤ y
    few x y e = omega arith
bounded (suc n) g k h = up _ _ n (Σ-term 64 (λ k. Σ (suc n) (g k)) k h)
  where
    up : (x s n : ℕ) → x ≤ s → x ≤ s * suc n
    up x s n l = omega arith

-- a remainder is its own
pub reduced : (x y : ℕ) → x % Q ≡ y → x % Q ≡ y % Q
reduced x y e = omega arith

-- the products with the places of elements are those with the elements
pub powers_inner_product : (powers x : List ℕ) (x-at x-step : ℕ) (c : List ℕ) (at r : ℕ) → PowersOf powers c at r
    → powers_product powers x x-at x-step r ≡ words (dot RqOps r (run x x-at x-step) (run c at 64))
unfolding powers_product
powers_inner_product powers x x-at x-step c at r p =
    table_ext 64 (λ k. total k % Q) (λ k. get_or totals k 0 % Q) (λ k h. ap (λ v. v % Q) (sym (get_or-table 64 total k 0 h)))
    ∙ totals_dot (Σ 64 total) c at 64 x x-at x-step r totals (record {
      value = λ k h. ap (λ v. v % Q) (get_or-table 64 total k 0 h) ∙ value k h;
      bound = λ k h. rw (get_or-table 64 total k 0 h) (bounded r (λ k i. coeff (row_product powers i (a i)) k) k h);
    })
    ∙ ap words (dot_comm RqOps rq_ring r (run c at 64) (run x x-at x-step))
  where
    a : ℕ → List ℕ
    a i = part x (x-at + x-step * i) 64

    total : ℕ → ℕ
    total k = Σ r (λ i. coeff (row_product powers i (a i)) k)

    totals : List ℕ
    totals = table 64 total

    each : (k : ℕ) → k < 64 → (i : ℕ) → i < r → coeff (row_product powers i (a i)) k % Q ≡ coeff (product_of c at 64 x x-at x-step i) k % Q
    each k h i l =
        ap (λ v. v % Q) (get_or-table 64 (λ k. Σ 42 (λ t. entry (a i) (get_or powers (64 * i + t) 0 + k))) k 0 h
        ∙ Σ_ext 42 (λ t. entry (a i) (get_or powers (64 * i + t) 0 + k)) (λ t. entry (a i) (get_or (part powers (64 * i) 64) t 0 + k))
        (λ t m. ap (λ q. entry (a i) (q + k)) (sym (get_d_part 0 powers (64 * i) 64 t (omega arith))))
        ∙ (p.rows i l).same (λ q. entry (a i) (q + k)) (zeros (a i) k h))
        ∙ reduced (Σ 64 (λ j. entry (a i) (place (coeff (part c (at + 64 * i) 64) j) j + k))) _ (product_at (a i) (part c (at + 64 * i) 64) (p.sparse i l) k h)

    value : (k : ℕ) → k < 64 → total k % Q ≡ Σ r (λ i. coeff (product_of c at 64 x x-at x-step i) k) % Q
    value k h = Σ-mod_ext r Q (λ i. coeff (row_product powers i (a i)) k) (λ i. coeff (product_of c at 64 x x-at x-step i) k) (each k h)
