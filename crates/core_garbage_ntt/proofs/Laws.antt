-- The inner products of vectors in NTT form: after copies and stores, and as elements.
use mathlib.Core.Path.{◌≡◌, refl, sym, ap, subst, ◌∙◌}
use mathlib.Core.List.{List}
use Prim.Native.Nat.{ℕ, ◌+◌, ◌*◌, ◌≤◌, ◌<◌}
use native.Mathlib.Nat.{zero-add}
use native.Mathlib.Omega.{arith}
use lib.ListN.{length, get_or}
use Rattle.math.specs.lists.Table.{table}
use Rattle.math.specs.lists.Part.{part, splice}
use Rattle.math.proofs.lists.Table.{table_ext}
use Rattle.math.proofs.lists.Splice.{length-splice, length_part, get_d_part}
use Rattle.spec_protocol.specs.Formulas.{flat, triangle}
use Rattle.spec_protocol.proofs.Region.{triangle_ext}
use Rattle.ring_rq_matrix.specs.Region.{gram}
use Rattle.ring_rq_matrix.proofs.Place.{rows-within, dot-vectors}
use Rattle.ntt_vectors.specs.NttForm.{NttForm, AllValues, ntt_dot, ntt_row}
use Rattle.ntt_vectors.proofs.Laws.{dot-same, same-before, same_copied, ntt_form-vector, ntt_dot_is}
use Rattle.core_garbage_ntt.specs.NttGarbage.{ntt_gram}

-- values copied to a buffer
module _ (B B' S : List ℕ) (p n : ℕ) (e : B' ≡ splice B 0 (part S p (192 * n))) (room : 192 * n ≤ length B) (within : p + 192 * n ≤ length S) where
  pub same-part : (o : ℕ) → o < 192 * n → get_or B' (0 + o) 0 ≡ get_or S (p + o) 0
  same-part o l =
      same_copied B B' (part S p (192 * n)) (192 * n) e (length_part S p (192 * n) within) room o l ∙ ap (λ j. get_or (part S p (192 * n)) j 0) (zero-add o) ∙ get_d_part 0 S p (192 * n) o l

  -- are values
  pub values_copied : AllValues S p n → AllValues B' 0 n
  values_copied v = record {
    within = omega (arith, ap length e, length-splice B 0 (part S p (192 * n)));
    small = λ i m k h l b.
        let there : 0 + 64 * i + 192 * m + k ≡ 0 + (64 * i + 192 * m + k) = omega arith in
        let here : p + (64 * i + 192 * m + k) ≡ p + 64 * i + 192 * m + k = omega arith in
        subst (λ x. x ≤ 134285152) (sym (ap (λ j. get_or B' j 0) there ∙ same-part (64 * i + 192 * m + k) (omega arith) ∙ ap (λ j. get_or S j 0) here)) (v.small i m k h l b);
  }

  -- the inner products with them
  pub row_copied : (at i count : ℕ) → p ≡ at + 192 * (i * n) → table count (ntt_row B' S at n) ≡ table count (ntt_gram S at n i)
  row_copied at i count h =
      table_ext count (ntt_row B' S at n) (ntt_gram S at n i)
      (λ j l. dot-same B' S 0 p S S (at + 192 * (j * n)) (at + 192 * (j * n)) n same-part (λ o m. refl) ∙ ap (λ x. ntt_dot S x S (at + 192 * (j * n)) n) h)

-- after a store behind the vectors
pub gram-before : (S S' : List ℕ) (to : ℕ) (new : List ℕ) (at n count i j : ℕ) → S' ≡ splice S to new → at + 192 * (count * n) ≤ to → i < count → j < count → ntt_gram S' at n i j ≡ ntt_gram S at n i j
gram-before S S' to new at n count i j e h hi hj =
    dot-same S' S (at + 192 * (i * n)) (at + 192 * (i * n)) S' S (at + 192 * (j * n)) (at + 192 * (j * n)) n
    (same-before S S' to new (at + 192 * (i * n)) (192 * n) e (omega (arith, rows-within i count n hi)))
    (same-before S S' to new (at + 192 * (j * n)) (192 * n) e (omega (arith, rows-within j count n hj)))

-- row i, stored
pub gram-row : (S S' next : List ℕ) (to : ℕ) (new : List ℕ) (at n count i row : ℕ) → S' ≡ splice S to new → at + 192 * (count * n) ≤ to → i < count
    → next ≡ splice S' row (flat (table (i + 1) (ntt_gram S' at n i))) → next ≡ splice S' row (flat (table (i + 1) (ntt_gram S at n i)))
gram-row S S' next to new at n count i row e h hi stored =
    stored ∙ ap (λ cells. splice S' row (flat cells)) (table_ext (i + 1) (ntt_gram S' at n i) (ntt_gram S at n i) (λ j l. gram-before S S' to new at n count i j e h hi (omega arith)))

-- g of vectors in NTT form
pub g-ntt : (S : List ℕ) (at : ℕ) (xs : List ℕ) (from r n : ℕ) → n ≤ 64 → NttForm S at xs from (r * n) → triangle r (ntt_gram S at n) ≡ triangle r (gram xs from n)
g-ntt S at xs from r n few k =
    triangle_ext r (ntt_gram S at n) (gram xs from n) (λ i j l m.
    ntt_dot_is S (at + 192 * (i * n)) xs (from + 64 * (i * n)) S (at + 192 * (j * n)) xs (from + 64 * (j * n)) n few
    (ntt_form-vector S at xs from r n i (at + 192 * (i * n)) (from + 64 * (i * n)) k l refl refl) (ntt_form-vector S at xs from r n j (at + 192 * (j * n)) (from + 64 * (j * n)) k m refl refl)
    ∙ dot-vectors xs from i (from + 64 * (i * n)) xs from j (from + 64 * (j * n)) n refl refl)
