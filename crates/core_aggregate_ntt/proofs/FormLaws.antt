-- Sums of products for each k: one term more of each.
use mathlib.Core.Path.{◌≡◌, sym, ap, ap₂, subst, ◌∙◌}
use mathlib.Core.List.{List}
use Prim.Native.Nat.{ℕ, ◌+◌, ◌-◌, ◌*◌, ◌/◌, ◌%◌, ◌≤◌, ◌<◌}
use native.Mathlib.Nat.{zero-add}
use native.Mathlib.Omega.{arith}
use lib.ListN.{length, get_or, replicate, length-replicate}
use Rattle.math.specs.lists.Table.{table}
use Rattle.math.specs.lists.Part.{part, splice}
use Rattle.math.proofs.lists.Table.{length-table, table_ext, table_split}
use Rattle.math.proofs.lists.Splice.{length-splice, splice-nil, splice-append, get_or-splice-after}
use Rattle.math.proofs.lists.Fill.{get_or-splice-table}
use Rattle.ntt_product.specs.NttForm.{most_products}
use Rattle.ntt_product.proofs.Residue.{Words}
use Rattle.ntt_vectors.specs.NttForm.{ntt_form, AllValues}
use Rattle.ntt_vectors.specs.Sums.{NttRoom, added}
use Rattle.ntt_vectors.proofs.SumsLaws.{values-small, all_small, room_for}
use Rattle.core_aggregate_ntt.proofs.Terms.{value_in}
use Rattle.core_aggregate_ntt.specs.Forms.{form_added, forms_added, FormSmall, FormsSmall}

-- the values of s, each small
pub s-small : (s : List ℕ) → AllValues s 0 1 → (k : ℕ) → k < 192 → get_or s (0 + k) 0 ≤ 134285152
s-small s v k l = all_small s 0 1 v 0 k (omega arith) l

-- an element's values in a buffer of their size
module _ (e a buffer : List ℕ) (same : a ≡ e) (stored : buffer ≡ splice (replicate 192 0) 0 (ntt_form a)) where
  pub form-made : (forms next : List ℕ) (form : ℕ) (s : List ℕ) → next ≡ splice forms form (added forms form buffer 0 s 0) → next ≡ splice forms form (form_added forms form e s)
  unfolding added form_added
  form-made forms next form s made =
      made
      ∙ ap (splice forms form) (table_ext 192 (λ k. get_or forms (form + k) 0 + get_or buffer (0 + k) 0 * get_or s (0 + k) 0) (λ k. get_or forms (form + k) 0 + get_or (ntt_form e) k 0 * get_or s k 0)
      (λ k l. ap₂ (λ v j. get_or forms (form + k) 0 + v * get_or s j 0) (value_in e a buffer same stored k l) (zero-add k)))

  pub form-room : (forms : List ℕ) (form : ℕ) (s : List ℕ) → Words e → AllValues s 0 1 → FormSmall forms form → NttRoom forms form buffer 0 s 0
  form-room forms form s w v small =
      room_for forms form buffer 0 s 0 small.1 (λ k l. subst (λ x. x ≤ 134285152) (sym (value_in e a buffer same stored k l)) (values-small e w k l)) (s-small s v)

  -- they are values
  pub buffer_values : Words e → AllValues buffer 0 1
  buffer_values w = let z : ℕ = 0 in record {
    within = omega (arith, ap length stored, length-splice (replicate 192 z) 0 (ntt_form a), length-replicate 192 z);
    small = λ i m k hi hm l.
        let there : 0 + 64 * i + 192 * m + k ≡ 0 + (64 * i + k) = omega arith in
        subst (λ x. x ≤ 134285152) (sym (ap (λ j. get_or buffer j 0) there ∙ value_in e a buffer same stored (64 * i + k) (omega arith))) (values-small e w (64 * i + k) (omega arith));
  }

  -- by which the terms are those by the element's values
  pub forms-stored : (forms next from : List ℕ) (at step count : ℕ) → next ≡ splice forms 0 (forms_added forms from at step count buffer)
      → next ≡ splice forms 0 (forms_added forms from at step count (ntt_form e))
  unfolding forms_added
  forms-stored forms next from at step count made =
      made
      ∙ ap (splice forms 0)
      (table_ext (192 * count) (λ j. get_or forms j 0 + get_or (ntt_form (part from (at + step * (j / 192)) 64)) (j % 192) 0 * get_or buffer (j % 192) 0)
      (λ j. get_or forms j 0 + get_or (ntt_form (part from (at + step * (j / 192)) 64)) (j % 192) 0 * get_or (ntt_form e) (j % 192) 0)
      (λ j l. ap (λ x. get_or forms j 0 + get_or (ntt_form (part from (at + step * (j / 192)) 64)) (j % 192) 0 * x)
      (ap (λ o. get_or buffer o 0) (sym (zero-add (j % 192))) ∙ value_in e a buffer same stored (j % 192) (omega arith))))

-- sums for each k
module _ (forms from : List ℕ) (at step : ℕ) (s : List ℕ) where
  grown : ℕ → ℕ
  grown j = get_or forms j 0 + get_or (ntt_form (part from (at + step * (j / 192)) 64)) (j % 192) 0 * get_or s (j % 192) 0

  -- sum o of k
  grown_at : (k o : ℕ) → o < 192 → grown (192 * k + o) ≡ get_or forms (192 * k + o) 0 + get_or (ntt_form (part from (at + step * k) 64)) o 0 * get_or s o 0
  unfolding grown
  grown_at k o l =
      let quotient : (192 * k + o) / 192 ≡ k = omega arith in
      let rest : (192 * k + o) % 192 ≡ o = omega arith in
      ap₂ (λ q r. get_or forms (192 * k + o) 0 + get_or (ntt_form (part from (at + step * q) 64)) r 0 * get_or s r 0) quotient rest

  pub length-forms : (k : ℕ) → length (forms_added forms from at step k s) ≡ 192 * k
  unfolding forms_added
  length-forms k = length-table (192 * k) _

  -- none yet
  pub forms-none : forms ≡ splice forms 0 (forms_added forms from at step 0 s)
  unfolding forms_added table
  forms-none = sym (splice-nil forms 0)

  -- the sums of the k that are not reached
  pub forms-rest : (now : List ℕ) (k j : ℕ) → now ≡ splice forms 0 (forms_added forms from at step k s) → 192 * k ≤ j → get_or now j 0 ≡ get_or forms j 0
  forms-rest now k j e h = ap (λ l. get_or l j 0) e ∙ get_or-splice-after forms 0 (forms_added forms from at step k s) j 0 (omega (arith, length-forms k))

  -- those of one k more
  pub forms-next : (now next : List ℕ) (k i : ℕ) → now ≡ splice forms 0 (forms_added forms from at step k s) → i ≡ at + step * k
      → next ≡ splice now (192 * k) (form_added now (192 * k) (part from i 64) s)
      → next ≡ splice forms 0 (forms_added forms from at step (k + 1) s)
  unfolding forms_added form_added grown
  forms-next now next k i e p made =
      let place : 192 * k ≡ 0 + length (table (192 * k) grown) = omega (arith, length-table (192 * k) grown) in
      let more : 192 * k + 192 ≡ 192 * (k + 1) = omega arith in
      made
      ∙ ap (splice now (192 * k)) (table_ext 192 (λ o. get_or now (192 * k + o) 0 + get_or (ntt_form (part from i 64)) o 0 * get_or s o 0) (λ o. grown (192 * k + o)) (λ o l.
      ap₂ (λ x i. x + get_or (ntt_form (part from i 64)) o 0 * get_or s o 0) (forms-rest now k (192 * k + o) e (omega arith)) p ∙ sym (grown_at k o l)))
      ∙ ap₂ (λ l p. splice l p (table 192 (λ o. grown (192 * k + o)))) e place
      ∙ splice-append forms 0 (table (192 * k) grown) (table 192 (λ o. grown (192 * k + o)))
      ∙ ap (splice forms 0) (sym (table_split (192 * k) 192 grown) ∙ ap (λ n. table n grown) more)

  -- room for the term of the next k
  pub form_small : (now : List ℕ) (count k : ℕ) → now ≡ splice forms 0 (forms_added forms from at step k s) → k < count → FormsSmall forms count → FormSmall now (192 * k)
  form_small now count k e h small = (
    omega (arith, ap length e, length-splice forms 0 (forms_added forms from at step k s), small.0),
    (λ o l. subst (λ x. x ≤ (most_products - 1) * 18032502047663104) (sym (forms-rest now k (192 * k + o) e (omega arith))) (small.1 (192 * k + o) (omega arith))),
  )

  -- sum o of k after all are added
  pub form_at : (next : List ℕ) (count : ℕ) → next ≡ splice forms 0 (forms_added forms from at step count s) → 192 * count ≤ length forms → (k o : ℕ) → k < count → o < 192
      → get_or next (192 * k + o) 0 ≡ get_or forms (192 * k + o) 0 + get_or (ntt_form (part from (at + step * k) 64)) o 0 * get_or s o 0
  unfolding forms_added grown
  form_at next count e h k o l b =
      ap (λ l. get_or l (192 * k + o) 0) e
      ∙ ap (λ j. get_or (splice forms 0 (table (192 * count) grown)) j 0) (sym (zero-add (192 * k + o)))
      ∙ get_or-splice-table forms 0 (192 * count) grown (192 * k + o) 0 (omega arith) (omega arith)
      ∙ grown_at k o b
