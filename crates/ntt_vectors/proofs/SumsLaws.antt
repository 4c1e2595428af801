-- The sums of products of values: room for a term more, and the inverse NTT.
use mathlib.Core.Path.{◌≡◌, sym, ap, ap₂, subst, ◌∙◌}
use mathlib.Core.List.{List}
use Prim.Native.Nat.{ℕ, ◌+◌, ◌-◌, ◌*◌, ◌/◌, ◌%◌, ◌≤◌, ◌<◌}
use native.Mathlib.Omega.{arith}
use lib.ListN.{length, get_or}
use Rattle.math.specs.lists.Part.{part, splice}
use Rattle.math.specs.lists.Sum.{Σ}
use Rattle.math.proofs.lists.Table.{table_ext}
use Rattle.math.proofs.lists.Sum.{Σ_ext, Σ-bound}
use Rattle.math.proofs.lists.Splice.{get_d_part, part-table}
use Rattle.math.proofs.lists.Fill.{get_or-splice-table}
use Rattle.math.specs.algebra.Ops.{dot}
use Rattle.spec_leaves.specs.Ring.{RqOps, IsElement, words, element}
use Rattle.ntt_product.specs.NttForm.{ntt_of, sums_of, most_products, inverse_ntt_of}
use Rattle.ntt_product.proofs.Residue.{Words, value-bound, product_small}
use Rattle.ntt_vectors.specs.NttForm.{ntt_form, NttForm, AllValues}
use Rattle.ntt_vectors.proofs.Stored.{values-part}
use Rattle.ntt_vectors.proofs.ValueSums.{inverse-words}
use Rattle.ntt_vectors.proofs.Laws.{inverse-element}
use Rattle.ntt_vectors.specs.Sums.{NttRoom, added, inverse_from, HoldsSums}

-- value k modulo prime i
value_at : (a : List ℕ) (i k : ℕ) → i < 3 → k < 64 → get_or (ntt_form a) (64 * i + k) 0 ≡ get_or (ntt_of i a) k 0
value_at a i k h l = sym (get_d_part 0 (ntt_form a) (64 * i) 64 k l) ∙ ap (λ w. get_or w k 0) (values-part a i h)

-- values are small
pub values-small : (a : List ℕ) → Words a → (k : ℕ) → k < 192 → get_or (ntt_form a) k 0 ≤ 134285152
values-small a w k h =
    let there : k ≡ 64 * (k / 64) + k % 64 = omega arith in
    subst (λ x. x ≤ 134285152) (sym (ap (λ j. get_or (ntt_form a) j 0) there
    ∙ value_at a (k / 64) (k % 64) (omega arith) (omega arith))) (value-bound (k / 64) (omega arith) a w (k % 64) (omega arith))

-- words read from a slice of words
pub part-words : (xs : List ℕ) → ((j : ℕ) → get_or xs j 0 ≤ 4294967295) → (p : ℕ) → Words (part xs p 64)
part-words xs small p k l = omega (arith, get_d_part 0 xs p 64 k l, small (p + k))

-- an NTT form, value by value
pub ntt_form-value : (slice : List ℕ) (at : ℕ) (xs : List ℕ) (from n : ℕ) → NttForm slice at xs from n → (m k : ℕ) → m < n → k < 192
    → get_or slice (at + 192 * m + k) 0 ≡ get_or (ntt_form (part xs (from + 64 * m) 64)) k 0
ntt_form-value slice at xs from n h m k l b =
    let there : at + 192 * m + k ≡ at + 64 * (k / 64) + 192 * m + k % 64 = omega arith in
    let here : k ≡ 64 * (k / 64) + k % 64 = omega arith in
    ap (λ j. get_or slice j 0) there
    ∙ sym (get_d_part 0 slice (at + 64 * (k / 64) + 192 * m) 64 (k % 64) (omega arith))
    ∙ ap (λ w. get_or w (k % 64) 0) (h.ntt (k / 64) m (omega arith) l)
    ∙ sym (value_at (part xs (from + 64 * m) 64) (k / 64) (k % 64) (omega arith) (omega arith))
    ∙ ap (λ j. get_or (ntt_form (part xs (from + 64 * m) 64)) j 0) (sym here)

-- those of element m
pub all_small : (slice : List ℕ) (at n : ℕ) → AllValues slice at n → (m k : ℕ) → m < n → k < 192 → get_or slice (at + 192 * m + k) 0 ≤ 134285152
all_small slice at n v m k l b =
    let there : at + 192 * m + k ≡ at + 64 * (k / 64) + 192 * m + k % 64 = omega arith in
    subst (λ p. get_or slice p 0 ≤ 134285152) (sym there) (v.small (k / 64) m (k % 64) (omega arith) l (omega arith))

-- after fewer than 512 terms there is room for one more
pub room_for : (sums : List ℕ) (at : ℕ) (x : List ℕ) (x-at : ℕ) (y : List ℕ) (y-at : ℕ) → ((k : ℕ) → k < 192 → get_or sums (at + k) 0 ≤ (most_products - 1) * 18032502047663104)
    → ((k : ℕ) → k < 192 → get_or x (x-at + k) 0 ≤ 134285152) → ((k : ℕ) → k < 192 → get_or y (y-at + k) 0 ≤ 134285152) → NttRoom sums at x x-at y y-at
room_for sums at x x-at y y-at s hx hy k l = omega (arith, s k l, product_small (get_or x (x-at + k) 0) (get_or y (y-at + k) 0) (hx k l) (hy k l))

-- the inverse NTT gives an element's words
pub inverse_from-element : (sums : List ℕ) (at : ℕ) → IsElement (inverse_from sums at)
unfolding inverse_from
inverse_from-element sums at = inverse-element (part sums at 64) (part sums (at + 64) 64) (part sums (at + 128) 64)

-- sum k after a term is added
pub added_at : (sums next : List ℕ) (at : ℕ) (x : List ℕ) (x-at : ℕ) (y : List ℕ) (y-at : ℕ) → next ≡ splice sums at (added sums at x x-at y y-at) → at + 192 ≤ length sums
    → (k : ℕ) → k < 192 → get_or next (at + k) 0 ≡ get_or sums (at + k) 0 + get_or x (x-at + k) 0 * get_or y (y-at + k) 0
unfolding added
added_at sums next at x x-at y y-at e h k l =
    ap (λ s. get_or s (at + k) 0) e ∙ get_or-splice-table sums at 192 (λ k. get_or sums (at + k) 0 + get_or x (x-at + k) 0 * get_or y (y-at + k) 0) k 0 l h

module _ (sums : List ℕ) (at n : ℕ) (a b : ℕ → List ℕ) (within : at + 192 ≤ length sums) (holds : HoldsSums sums at n a b) where
  -- the sums modulo prime i
  part_is : (i p : ℕ) → i < 3 → p ≡ at + 64 * i → part sums p 64 ≡ sums_of i n a b
  unfolding sums_of
  part_is i p hi e =
      sym (part-table 0 sums p 64 (omega arith))
      ∙ table_ext 64 (λ k. get_or sums (p + k) 0) (λ k. Σ n (λ m. get_or (ntt_of i (a m)) k 0 * get_or (ntt_of i (b m)) k 0)) (λ k l.
      let there : p + k ≡ at + (64 * i + k) = omega arith in
      ap (λ j. get_or sums j 0) there
      ∙ holds (64 * i + k) (omega arith)
      ∙ Σ_ext n (λ m. get_or (ntt_form (a m)) (64 * i + k) 0 * get_or (ntt_form (b m)) (64 * i + k) 0) (λ m. get_or (ntt_of i (a m)) k 0 * get_or (ntt_of i (b m)) k 0)
      (λ m c. ap₂ ◌*◌ (value_at (a m) i k hi l) (value_at (b m) i k hi l)))

  -- the inverse NTT gives the inner product
  pub inverse-holds : n ≤ most_products → ((m : ℕ) → Words (a m)) → ((m : ℕ) → Words (b m)) → inverse_from sums at ≡ words (dot RqOps n (λ m. element (a m)) (λ m. element (b m)))
  unfolding inverse_from
  inverse-holds few wa wb =
      ap₂ (λ s t. inverse_ntt_of s t (part sums (at + 128) 64)) (part_is 0 at (omega arith) (omega arith)) (part_is 1 (at + 64) (omega arith) (omega arith))
      ∙ ap (inverse_ntt_of (sums_of 0 n a b) (sums_of 1 n a b)) (part_is 2 (at + 128) (omega arith) (omega arith))
      ∙ inverse-words n few a b (λ m k l. wa m k l) (λ m k l. wb m k l)

  -- how large the sums are
  pub holds-small : ((m : ℕ) → Words (a m)) → ((m : ℕ) → Words (b m)) → (k : ℕ) → k < 192 → get_or sums (at + k) 0 ≤ n * 18032502047663104
  holds-small wa wb k l =
      subst (λ x. x ≤ n * 18032502047663104) (sym (holds k l))
      (Σ-bound n 18032502047663104 (λ m. get_or (ntt_form (a m)) k 0 * get_or (ntt_form (b m)) k 0)
      (λ m c. product_small (get_or (ntt_form (a m)) k 0) (get_or (ntt_form (b m)) k 0) (values-small (a m) (wa m) k l) (values-small (b m) (wb m) k l)))
