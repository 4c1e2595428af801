-- The NTT form that a slice holds: the values of parts of it, after stores elsewhere, and the inner products of elements in NTT form.
use mathlib.Core.Path.{◌≡◌, refl, sym, ap, ap₂, subst, ◌∙◌}
use mathlib.Core.List.{List}
use Prim.Native.Nat.{ℕ, ◌+◌, ◌*◌, ◌≤◌, ◌<◌}
use native.Mathlib.Nat.{zero-add, mul-le-mul_right}
use native.Mathlib.Omega.{arith}
use lib.ListN.{length, get_or}
use Rattle.math.specs.lists.Table.{table}
use Rattle.math.specs.lists.Part.{part, splice}
use Rattle.math.specs.lists.Sum.{Σ}
use Rattle.math.proofs.lists.Table.{table_ext}
use Rattle.math.proofs.lists.Sum.{Σ_ext}
use Rattle.math.proofs.lists.Splice.{length-splice, get_d_part, get_or-splice-before, get_or-splice-within, part-splice-before}
use Rattle.math.specs.algebra.Ops.{dot}
use Rattle.spec_leaves.specs.Rq.{coeff}
use Rattle.spec_leaves.specs.Ring.{RqOps, IsElement, canonical_mod, table_element, words, element}
use Rattle.spec_leaves.proofs.Bridge.{element-words, words-element}
use Rattle.ntt_product.specs.Crt.{crt_of, crt_all_of}
use Rattle.ntt_product.specs.NttForm.{ntt_of, sums_of, inverse_ntt_of}
use Rattle.ntt_product.proofs.Residue.{value-bound}
use Rattle.ring_inner_product.specs.Run.{run}
use Rattle.ntt_vectors.specs.NttForm.{NttForm, value_sums, Values, AllValues, ntt_dot}
use Rattle.ntt_vectors.proofs.ValueSums.{inverse-words}

-- the inverse NTT gives an element's words
pub inverse-element : (s t u : List ℕ) → IsElement (inverse_ntt_of s t u)
unfolding inverse_ntt_of crt_all_of crt_of
inverse-element s t u = table_element _ (λ k. canonical_mod _)

pub dot-words : (x : List ℕ) (x-at : ℕ) (y : List ℕ) (y-at n : ℕ) (r s t u : List ℕ) → r ≡ inverse_ntt_of s t u → s ≡ value_sums x x-at y y-at n
    → t ≡ value_sums x (x-at + 64) y (y-at + 64) n → u ≡ value_sums x (x-at + 128) y (y-at + 128) n
    → r ≡ words (ntt_dot x x-at y y-at n)
unfolding ntt_dot
dot-words x x-at y y-at n r s t u e a b c =
    e ∙ ap₂ (λ s t. inverse_ntt_of s t u) a b ∙ ap (inverse_ntt_of (value_sums x x-at y y-at n) (value_sums x (x-at + 64) y (y-at + 64) n)) c ∙ sym (words-element _ (inverse-element _ _ _))

-- values modulo one of the primes
pub prime-values : (slice : List ℕ) (at n : ℕ) → AllValues slice at n → (i place : ℕ) → i < 3 → place ≡ at + 64 * i → Values slice place n
prime-values slice at n v i place h e = subst (λ p. Values slice p n) (sym e) record {
  within = λ m l. omega (arith, v.within);
  small = λ m k l b. v.small i m k h l b;
}

-- those of vector i, of vectors of n elements
pub vector-values : (slice : List ℕ) (at r n i place : ℕ) → AllValues slice at (r * n) → i < r → place ≡ at + 192 * (i * n) → AllValues slice place n
vector-values slice at r n i place v h e =
    subst (λ p. AllValues slice p n) (sym e) record {
      within = omega (arith, v.within, mul-le-mul_right n h);
      small = λ j m k a b l.
          let there : at + 192 * (i * n) + 64 * j + 192 * m + k ≡ at + 64 * j + 192 * (i * n + m) + k = omega arith in
          subst (λ p. get_or slice p 0 ≤ 134285152) (sym there) (v.small j (i * n + m) k a (omega (arith, mul-le-mul_right n h)) l);
    }

-- those of the first m of n elements
pub values-first : (slice : List ℕ) (at n m : ℕ) → m ≤ n → AllValues slice at n → AllValues slice at m
values-first slice at n m h v = record {
  within = omega (arith, v.within);
  small = λ i o k a b l. v.small i o k a (omega arith) l;
}

-- after a store behind them
pub values-before : (S S' : List ℕ) (to : ℕ) (new : List ℕ) (at n : ℕ) → S' ≡ splice S to new → at + 192 * n ≤ to → AllValues S at n → AllValues S' at n
values-before S S' to new at n e h v =
    subst (λ l. AllValues l at n) (sym e) record {
      within = omega (arith, v.within, length-splice S to new);
      small = λ i m k a b l. subst (λ x. x ≤ 134285152) (sym (get_or-splice-before S to new (at + 64 * i + 192 * m + k) 0 (omega arith))) (v.small i m k a b l);
    }

-- where their words are the same
pub values_same : (S S' : List ℕ) (at n : ℕ) → length S' ≡ length S → ((o m : ℕ) → o + m ≤ 192 * n → part S' (at + o) m ≡ part S (at + o) m) → AllValues S at n → AllValues S' at n
values_same S S' at n size same v = record {
  within = omega (arith, v.within, size);
  small = λ i m k a b l.
      let there : at + 64 * i + 192 * m + k ≡ at + (64 * i + 192 * m) + k = omega arith in
      let word : get_or S' (at + 64 * i + 192 * m + k) 0 ≡ get_or S (at + 64 * i + 192 * m + k) 0 =
      ap (λ p. get_or S' p 0) there
      ∙ sym (get_d_part 0 S' (at + (64 * i + 192 * m)) 64 k l)
      ∙ ap (λ w. get_or w k 0) (same (64 * i + 192 * m) 64 (omega arith))
      ∙ get_d_part 0 S (at + (64 * i + 192 * m)) 64 k l
      ∙ ap (λ p. get_or S p 0) (sym there) in
      subst (λ x. x ≤ 134285152) (sym word) (v.small i m k a b l);
}

module _ (slice : List ℕ) (at : ℕ) (xs : List ℕ) (from : ℕ) where
  -- an NTT form is of values
  pub ntt_form-values : (n : ℕ) → NttForm slice at xs from n → AllValues slice at n
  ntt_form-values n k = record {
    within = k.within;
    small = λ i m o a b l.
        subst (λ x. x ≤ 134285152) (sym (sym (get_d_part 0 slice (at + 64 * i + 192 * m) 64 o l) ∙ ap (λ w. get_or w o 0) (k.ntt i m a b)))
        (value-bound i a (part xs (from + 64 * m) 64) (λ j c. k.small m j c) o l);
  }

  -- vector i, of vectors of n elements
  pub ntt_form-vector : (r n i place first : ℕ) → NttForm slice at xs from (r * n) → i < r → place ≡ at + 192 * (i * n) → first ≡ from + 64 * (i * n) → NttForm slice place xs first n
  ntt_form-vector r n i place first k h e f =
      subst (λ p. NttForm slice p xs first n) (sym e) (subst (λ p. NttForm slice (at + 192 * (i * n)) xs p n) (sym f) record {
        ntt = λ j m a b.
            let there : at + 192 * (i * n) + 64 * j + 192 * m ≡ at + 64 * j + 192 * (i * n + m) = omega arith in
            let here : from + 64 * (i * n) + 64 * m ≡ from + 64 * (i * n + m) = omega arith in
            ap (λ p. part slice p 64) there ∙ k.ntt j (i * n + m) a (omega (arith, mul-le-mul_right n h)) ∙ ap (λ p. ntt_of j (part xs p 64)) (sym here);
        small = λ m o b.
            let here : from + 64 * (i * n) + 64 * m ≡ from + 64 * (i * n + m) = omega arith in
            subst (λ p. coeff (part xs p 64) o ≤ 4294967295) (sym here) (k.small (i * n + m) o b);
        within = omega (arith, k.within, mul-le-mul_right n h);
      })

  -- after a store behind it
  pub ntt_form-before : (S' : List ℕ) (to : ℕ) (new : List ℕ) (n : ℕ) → S' ≡ splice slice to new → at + 192 * n ≤ to → NttForm slice at xs from n → NttForm S' at xs from n
  ntt_form-before S' to new n e h k =
      subst (λ l. NttForm l at xs from n) (sym e) record {
        ntt = λ i m a b. part-splice-before 0 slice to new (at + 64 * i + 192 * m) 64 (omega arith) ∙ k.ntt i m a b;
        small = k.small;
        within = omega (arith, k.within, length-splice slice to new);
      }

  -- where its words are the same
  pub ntt_form-same : (S' : List ℕ) (n : ℕ) → length S' ≡ length slice → ((o m : ℕ) → o + m ≤ 192 * n → part S' (at + o) m ≡ part slice (at + o) m)
      → NttForm slice at xs from n → NttForm S' at xs from n
  ntt_form-same S' n size same k = record {
    ntt = λ i m a b.
        let there : at + 64 * i + 192 * m ≡ at + (64 * i + 192 * m) = omega arith in
        ap (λ p. part S' p 64) there ∙ same (64 * i + 192 * m) 64 (omega arith) ∙ ap (λ p. part slice p 64) (sym there) ∙ k.ntt i m a b;
    small = k.small;
    within = omega (arith, k.within, size);
  }

-- inner products of the same values
module _ (x x' : List ℕ) (p p' : ℕ) (y y' : List ℕ) (q q' n : ℕ) (same-x : (o : ℕ) → o < 192 * n → get_or x (p + o) 0 ≡ get_or x' (p' + o) 0)
    (same-y : (o : ℕ) → o < 192 * n → get_or y (q + o) 0 ≡ get_or y' (q' + o) 0) where
  sums_same : (i : ℕ) → i < 3 → (a a' b b' : ℕ) → a ≡ p + 64 * i → a' ≡ p' + 64 * i → b ≡ q + 64 * i → b' ≡ q' + 64 * i → value_sums x a y b n ≡ value_sums x' a' y' b' n
  unfolding value_sums
  sums_same i h a a' b b' ea ea' eb eb' =
      table_ext 64 (λ k. Σ n (λ m. get_or x (a + 192 * m + k) 0 * get_or y (b + 192 * m + k) 0)) (λ k. Σ n (λ m. get_or x' (a' + 192 * m + k) 0 * get_or y' (b' + 192 * m + k) 0)) (λ k l.
      Σ_ext n (λ m. get_or x (a + 192 * m + k) 0 * get_or y (b + 192 * m + k) 0) (λ m. get_or x' (a' + 192 * m + k) 0 * get_or y' (b' + 192 * m + k) 0) (λ m c.
      ap₂ ◌*◌ (one k m l c x x' a a' p p' ea ea' same-x) (one k m l c y y' b b' q q' eb eb' same-y)))
    where
      one : (k m : ℕ) → k < 64 → m < n → (z z' : List ℕ) (a a' p p' : ℕ) → a ≡ p + 64 * i → a' ≡ p' + 64 * i → ((o : ℕ) → o < 192 * n → get_or z (p + o) 0 ≡ get_or z' (p' + o) 0)
          → get_or z (a + 192 * m + k) 0 ≡ get_or z' (a' + 192 * m + k) 0
      one k m l c z z' a a' p p' e e' same =
          let there : a + 192 * m + k ≡ p + (64 * i + 192 * m + k) = omega arith in
          let there' : a' + 192 * m + k ≡ p' + (64 * i + 192 * m + k) = omega arith in
          ap (λ j. get_or z j 0) there ∙ same (64 * i + 192 * m + k) (omega arith) ∙ ap (λ j. get_or z' j 0) (sym there')

  pub dot-same : ntt_dot x p y q n ≡ ntt_dot x' p' y' q' n
  unfolding ntt_dot
  dot-same =
      ap element
      (ap₂ (λ a b. inverse_ntt_of a b (value_sums x (p + 128) y (q + 128) n)) (sums_same 0 (omega arith) p p' q q' (omega arith) (omega arith) (omega arith) (omega arith))
      (sums_same 1 (omega arith) (p + 64) (p' + 64) (q + 64) (q' + 64) (omega arith) (omega arith) (omega arith) (omega arith))
      ∙ ap (inverse_ntt_of (value_sums x' p' y' q' n) (value_sums x' (p' + 64) y' (q' + 64) n))
      (sums_same 2 (omega arith) (p + 128) (p' + 128) (q + 128) (q' + 128) (omega arith) (omega arith) (omega arith) (omega arith)))

-- values that stand before a store
pub same-before : (S S' : List ℕ) (to : ℕ) (new : List ℕ) (q n : ℕ) → S' ≡ splice S to new → q + n ≤ to → (o : ℕ) → o < n → get_or S' (q + o) 0 ≡ get_or S (q + o) 0
same-before S S' to new q n e h o l = ap (λ s. get_or s (q + o) 0) e ∙ get_or-splice-before S to new (q + o) 0 (omega arith)

-- values that are copied
pub same_copied : (B B' ws : List ℕ) (n : ℕ) → B' ≡ splice B 0 ws → length ws ≡ n → n ≤ length B → (o : ℕ) → o < n → get_or B' (0 + o) 0 ≡ get_or ws (0 + o) 0
same_copied B B' ws n e size h o l =
    ap (λ s. get_or s (0 + o) 0) e ∙ get_or-splice-within B 0 ws o 0 (omega arith) (omega arith) ∙ ap (λ j. get_or ws j 0) (sym (zero-add o))

-- inner products with what stands before a store
pub dot_before : (v S S' : List ℕ) (to : ℕ) (new : List ℕ) → S' ≡ splice S to new → (n p q : ℕ) → q + 192 * n ≤ to → ntt_dot v p S' q n ≡ ntt_dot v p S q n
dot_before v S S' to new e n p q h = dot-same v v p p S' S q q n (λ o l. refl) (same-before S S' to new q (192 * n) e h)

-- the inner product in NTT form is that of the elements
module _ (x : List ℕ) (x-at : ℕ) (xs : List ℕ) (xs-at : ℕ) (y : List ℕ) (y-at : ℕ) (ys : List ℕ) (ys-at n : ℕ) (few : n ≤ 64) (kx : NttForm x x-at xs xs-at n) (ky : NttForm y y-at ys ys-at n) where
  abbrev a : ℕ → List ℕ
  a m = part xs (xs-at + 64 * m) 64

  abbrev b : ℕ → List ℕ
  b m = part ys (ys-at + 64 * m) 64

  sums_are : (i p q : ℕ) → i < 3 → p ≡ x-at + 64 * i → q ≡ y-at + 64 * i → value_sums x p y q n ≡ sums_of i n a b
  unfolding value_sums sums_of
  sums_are i p q h e f =
      ap₂ (λ p q. table 64 (λ k. Σ n (λ m. get_or x (p + 192 * m + k) 0 * get_or y (q + 192 * m + k) 0))) e f
      ∙ table_ext 64 (λ k. Σ n (λ m. get_or x (x-at + 64 * i + 192 * m + k) 0 * get_or y (y-at + 64 * i + 192 * m + k) 0))
      (λ k. Σ n (λ m. get_or (ntt_of i (a m)) k 0 * get_or (ntt_of i (b m)) k 0)) (λ k l.
      Σ_ext n (λ m. get_or x (x-at + 64 * i + 192 * m + k) 0 * get_or y (y-at + 64 * i + 192 * m + k) 0) (λ m. get_or (ntt_of i (a m)) k 0 * get_or (ntt_of i (b m)) k 0) (λ m c.
      ap₂ ◌*◌ (sym (get_d_part 0 x (x-at + 64 * i + 192 * m) 64 k l) ∙ ap (λ w. get_or w k 0) (kx.ntt i m h c))
      (sym (get_d_part 0 y (y-at + 64 * i + 192 * m) 64 k l) ∙ ap (λ w. get_or w k 0) (ky.ntt i m h c))))

  pub ntt_dot_is : ntt_dot x x-at y y-at n ≡ dot RqOps n (run xs xs-at 64) (run ys ys-at 64)
  unfolding ntt_dot
  ntt_dot_is =
      ap element
      (ap₂ (λ s t. inverse_ntt_of s t (value_sums x (x-at + 128) y (y-at + 128) n)) (sums_are 0 x-at y-at (omega arith) (omega arith) (omega arith))
      (sums_are 1 (x-at + 64) (y-at + 64) (omega arith) (omega arith) (omega arith))
      ∙ ap (inverse_ntt_of (sums_of 0 n a b) (sums_of 1 n a b)) (sums_are 2 (x-at + 128) (y-at + 128) (omega arith) (omega arith) (omega arith))
      ∙ inverse-words n (omega arith) a b kx.small ky.small)
      ∙ element-words (dot RqOps n (run xs xs-at 64) (run ys ys-at 64))
