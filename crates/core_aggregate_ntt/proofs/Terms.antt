-- Sums of products of weights' values and elements' values: one term more, and how large they are.
use mathlib.Core.Path.{◌≡◌, sym, ap, ap₂, subst, ◌∙◌}
use mathlib.Core.List.{List}
use Prim.Native.Nat.{ℕ, ◌+◌, ◌-◌, ◌*◌, ◌≤◌, ◌<◌}
use native.Mathlib.Nat.{zero-add, add-zero, add_assoc}
use native.Mathlib.Decide.{dec_lt}
use native.Mathlib.Omega.{arith}
use lib.ListN.{length, get_or, replicate, length-replicate, get_or-replicate}
use Rattle.math.specs.lists.Part.{part, splice}
use Rattle.math.specs.lists.Sum.{Σ}
use Rattle.math.proofs.lists.Table.{length-table, get_or-table, table_ext, table-get_or, is_table}
use Rattle.math.proofs.lists.Sum.{Σ-suc, Σ-bound}
use Rattle.math.proofs.lists.Splice.{length-splice, get_or-splice-within}
use Rattle.ntt_product.specs.NttForm.{ntt_of, most_products}
use Rattle.ntt_product.proofs.Residue.{Words, product_small}
use Rattle.ring_inner_product.specs.Run.{Run}
use Rattle.ntt_vectors.specs.NttForm.{ntt_form, NttForm, AllValues}
use Rattle.ntt_vectors.proofs.Stored.{length-values}
use Rattle.ntt_vectors.proofs.Laws.{ntt_form-values}
use Rattle.ntt_vectors.specs.Sums.{NttRoom, added}
use Rattle.ntt_vectors.proofs.SumsLaws.{values-small, part-words, all_small, room_for, added_at}
use Rattle.core_aggregate_ntt.specs.Terms.{term_added, terms_added, SumsSmall}

-- an element's values in a buffer of their size
module _ (e a buffer : List ℕ) (same : a ≡ e) (stored : buffer ≡ splice (replicate 192 0) 0 (ntt_form a)) where
  pub value_in : (k : ℕ) → k < 192 → get_or buffer (0 + k) 0 ≡ get_or (ntt_form e) k 0
  value_in k l = let z : ℕ = 0 in ap (λ b. get_or b (0 + k) 0) (stored ∙ ap (λ a. splice (replicate 192 z) 0 (ntt_form a)) same)
      ∙ get_or-splice-within (replicate 192 z) 0 (ntt_form e) k 0 (omega (arith, length-values e)) (omega (arith, length-values e, length-replicate 192 z))

  -- the term that is added
  pub term_made : (sums next weights : List ℕ) (p : ℕ) → length sums ≡ 192 → next ≡ splice sums 0 (added sums 0 weights p buffer 0) → next ≡ term_added sums weights p e
  unfolding term_added
  term_made sums next weights p size made =
      is_table 192 next (λ k. get_or sums k 0 + get_or weights (p + k) 0 * get_or (ntt_form e) k 0) 0 (ap length made ∙ length-splice sums 0 (added sums 0 weights p buffer 0) ∙ size)
      (λ k l. ap (λ j. get_or next j 0) (sym (zero-add k)) ∙ added_at sums next 0 weights p buffer 0 made (omega arith) k l
      ∙ ap₂ (λ j v. get_or sums j 0 + get_or weights (p + k) 0 * v) (zero-add k) (value_in k l))

  -- has room
  pub term-room : (sums weights : List ℕ) (p : ℕ) → Words e → AllValues weights p 1 → SumsSmall sums 1 → NttRoom sums 0 weights p buffer 0
  term-room sums weights p w v s =
      room_for sums 0 weights p buffer 0 (λ k l. subst (λ j. get_or sums j 0 ≤ (most_products - 1) * 18032502047663104) (sym (zero-add k)) (s.small k l))
      (λ k l. subst (λ j. get_or weights (j + k) 0 ≤ 134285152) (add-zero p) (all_small weights p 1 v 0 k (omega arith) l))
      (λ k l. subst (λ x. x ≤ 134285152) (sym (value_in k l)) (values-small e w k l))

-- a run of terms
module _ (sums weights : List ℕ) (weights-at : ℕ) (from : List ℕ) (at step : ℕ) where
  abbrev term : ℕ → ℕ → ℕ
  term k m = get_or weights (weights-at + 192 * m + k) 0 * get_or (ntt_form (part from (at + step * m) 64)) k 0

  pub length-terms : (m : ℕ) → length (terms_added sums weights weights-at from at step m) ≡ 192
  unfolding terms_added
  length-terms m = length-table 192 (λ k. get_or sums k 0 + Σ m (term k))

  pub terms-length : (now : List ℕ) (m : ℕ) → now ≡ terms_added sums weights weights-at from at step m → length now ≡ 192
  terms-length now m e = ap length e ∙ length-terms m

  -- sum k
  pub term_at : (m k : ℕ) → k < 192
      → get_or (terms_added sums weights weights-at from at step m) k 0 ≡ get_or sums k 0 + Σ m
      (λ o. get_or weights (weights-at + 192 * o + k) 0 * get_or (ntt_form (part from (at + step * o) 64)) k 0)
  unfolding terms_added
  term_at m k l = get_or-table 192 (λ k. get_or sums k 0 + Σ m (term k)) k 0 l

  -- no term yet
  pub terms-none : length sums ≡ 192 → sums ≡ terms_added sums weights weights-at from at step 0
  unfolding terms_added Σ
  terms-none size = sym (table_ext 192 (λ k. get_or sums k 0 + 0) (λ k. get_or sums k 0) (λ k l. add-zero (get_or sums k 0)) ∙ table-get_or 192 sums 0 size)

  -- one more
  pub terms-next : (now next : List ℕ) (m p i : ℕ) → now ≡ terms_added sums weights weights-at from at step m → p ≡ weights-at + 192 * m → i ≡ at + step * m
      → next ≡ term_added now weights p (part from i 64)
      → next ≡ terms_added sums weights weights-at from at step (m + 1)
  unfolding term_added terms_added
  terms-next now next m p i e ep ei made =
      made
      ∙ table_ext 192 (λ k. get_or now k 0 + get_or weights (p + k) 0 * get_or (ntt_form (part from i 64)) k 0) (λ k. get_or sums k 0 + Σ (m + 1) (term k)) (λ k l.
      ap₂ ◌+◌ (ap (λ s. get_or s k 0) e ∙ term_at m k l) (ap₂ (λ p i. get_or weights (p + k) 0 * get_or (ntt_form (part from i 64)) k 0) ep ei)
      ∙ add_assoc (get_or sums k 0) (Σ m (term k)) (term k m)
      ∙ ap (λ s. get_or sums k 0 + s) (sym (Σ-suc m (term k))))

  -- how large the sums are
  pub terms-below : (n m : ℕ) → m ≤ n → AllValues weights weights-at n → ((j : ℕ) → get_or from j 0 ≤ 4294967295) → (k : ℕ) → k < 192
      → get_or (terms_added sums weights weights-at from at step m) k 0 ≤ get_or sums k 0 + m * 18032502047663104
  terms-below n m h v small k l =
      let total : Σ m (term k) ≤ m * 18032502047663104 = Σ-bound m 18032502047663104 (term k) (λ o b.
      product_small (get_or weights (weights-at + 192 * o + k) 0) (get_or (ntt_form (part from (at + step * o) 64)) k 0) (all_small weights weights-at n v o k (omega arith) l)
      (values-small (part from (at + step * o) 64) (part-words from small (at + step * o)) k l)) in
      omega (arith, term_at m k l)

  -- room for a term more
  pub terms-small : (now : List ℕ) (n m : ℕ) → now ≡ terms_added sums weights weights-at from at step m → m < n → AllValues weights weights-at n
      → ((j : ℕ) → get_or from j 0 ≤ 4294967295) → SumsSmall sums n → SumsSmall now 1
  terms-small now n m e h v small s = record {
    whole = terms-length now m e;
    few = omega arith;
    small = λ k l. omega (arith, ap (λ w. get_or w k 0) e, terms-below n m (omega arith) v small k l, s.small k l, s.few);
  }

-- the first of so many terms has room where there are no sums
pub none-small : (n : ℕ) → n ≤ most_products → SumsSmall (replicate 192 0) n
none-small n few = let z : ℕ = 0 in record {
  whole = length-replicate 192 z;
  few = few;
  small = λ k l. omega (arith, get_or-replicate 192 k z z l);
}

-- weight m
pub one_value : (slice : List ℕ) (at n m p : ℕ) → AllValues slice at n → m < n → p ≡ at + 192 * m → AllValues slice p 1
one_value slice at n m p v h e = record {
  within = omega (arith, v.within);
  small = λ i o k a b l.
      let there : p + 64 * i + 192 * o + k ≡ at + 64 * i + 192 * m + k = omega arith in
      subst (λ j. get_or slice j 0 ≤ 134285152) (sym there) (v.small i m k a h l);
}

-- the last of the weights
pub values-last : (slice : List ℕ) (K L : ℕ) → AllValues slice 0 (K + L) → AllValues slice (192 * K) L
values-last slice K L v = record {
  within = omega (arith, v.within);
  small = λ i m k a b l.
      let there : 192 * K + 64 * i + 192 * m + k ≡ 0 + 64 * i + 192 * (K + m) + k = omega arith in
      subst (λ j. get_or slice j 0 ≤ 134285152) (sym there) (v.small i (K + m) k a (omega arith) l);
}

-- room for so many more terms after the first K
pub terms-after : (weights from : List ℕ) (at step : ℕ) (now : List ℕ) (K L : ℕ) → now ≡ terms_added (replicate 192 0) weights 0 from at step K → AllValues weights 0 (K + L)
    → K + L ≤ most_products → ((j : ℕ) → get_or from j 0 ≤ 4294967295)
    → SumsSmall now L
terms-after weights from at step now K L e v h small = let z : ℕ = 0 in record {
  whole = terms-length (replicate 192 0) weights 0 from at step now K e;
  few = omega arith;
  small = λ k l. omega (arith, ap (λ w. get_or w k 0) e, terms-below (replicate 192 0) weights 0 from at step (K + L) K (omega arith) v small k l, get_or-replicate 192 k z z l);
}

-- where a run of elements one after the other ends
pub run_end : (words : List ℕ) (at n : ℕ) → Run words at 64 n → 1 ≤ n → at + 64 * n ≤ length words
run_end words at n r h = omega (arith, r.within (n - 1) (omega arith))

-- and of elements that begin at a place that is the run's, where there are any
pub first-end : (words : List ℕ) (at n first : ℕ) → Run words at 64 n → (0 < n → first ≡ at) → (n ≡ 0 → first ≡ 0) → first + 64 * n ≤ length words
first-end words at n first r some none = by (dec_lt 0 n)
  where
    by : Dec (0 < n) → first + 64 * n ≤ length words
    by (yes h) = omega (arith, some h, run_end words at n r h)
    by (no h) = omega (arith, none (omega arith))

-- their NTT form is the run's
pub form-from : (slice : List ℕ) (p : ℕ) (xs : List ℕ) (at n first : ℕ) → ((j : ℕ) → get_or xs j 0 ≤ 4294967295) → (0 < n → first ≡ at) → NttForm slice p xs first n → NttForm slice p xs at n
form-from slice p xs at n first words some h = record {
  ntt = λ i m a b. h.ntt i m a b ∙ ap (λ q. ntt_of i (part xs (q + 64 * m) 64)) (some (omega arith));
  small = λ m k l. part-words xs words (at + 64 * m) k l;
  within = h.within;
}

-- the values of weights of both kinds
pub both_values : (slice W : List ℕ) (alpha beta K L : ℕ) → NttForm slice 0 W alpha K → NttForm slice (192 * K) W beta L → AllValues slice 0 (K + L)
both_values slice W alpha beta K L a b = record {
  within = omega (arith, b.within);
  small = λ i m k hi hm l. either i m k hi l (dec_lt m K) hm;
}
  where
    first : AllValues slice 0 K
    first = ntt_form-values slice 0 W alpha K a

    second : AllValues slice (192 * K) L
    second = ntt_form-values slice (192 * K) W beta L b

    either : (i m k : ℕ) → i < 3 → k < 64 → Dec (m < K) → m < K + L → get_or slice (0 + 64 * i + 192 * m + k) 0 ≤ 134285152
    either i m k hi l (yes h) hm = first.small i m k hi h l
    either i m k hi l (no h) hm =
        let there : 0 + 64 * i + 192 * m + k ≡ 192 * K + 64 * i + 192 * (m - K) + k = omega arith in
        subst (λ j. get_or slice j 0 ≤ 134285152) (sym there) (second.small i (m - K) k hi (omega arith) l)
