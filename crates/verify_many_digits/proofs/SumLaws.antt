-- Sums of one row, block after block, and their stores.
use mathlib.Core.Path.{◌≡◌, refl, sym, ap, ap₂, subst, ◌∙◌}
use mathlib.Core.Bool.{Bool, true}
use mathlib.Core.List.{List, []}
use Prim.Native.Nat.{ℕ, ◌+◌, ◌*◌, ◌≤◌, ◌<◌}
use native.Mathlib.Decide.{dec_lt}
use native.Mathlib.Omega.{arith}
use lib.ListN.{length, get_or, set, replicate, get_or-replicate}
use lib.Seq.{get_or-set_same, get_or-set_other}
use Rattle.math.specs.lists.Part.{part}
use Rattle.math.specs.algebra.Ops as Ops
use Rattle.math.proofs.algebra.Dot.{dot_split}
use Rattle.spec_leaves.specs.Rq.{rzero, coeff}
use Rattle.spec_leaves.specs.Ring.{RqOps, words}
use Rattle.spec_leaves.proofs.RqRing.{rq_ring}
use Rattle.ring_rq.specs.declared.rq.Rq.{Rq}
use Rattle.ring_inner_product.specs.Run.{run}
use Rattle.ring_rq_matrix.proofs.Place.{run-from}
use Rattle.ring_rq_matrix.proofs.Word.{stands_for, words_of-sum, total-none}
use Rattle.spec_protocol.specs.Formulas.{◌⊕◌, ◌⊗◌, dot}
use Rattle.ntt_product.specs.NttForm.{ntt_of}
use Rattle.ntt_vectors.specs.NttForm.{NttForm, AllValues, ntt_dot}
use Rattle.ntt_vectors.proofs.Laws.{ntt_dot_is}
use Rattle.verify_many_digits.specs.Sums.{sum_at, added_to, BlockAdded}

-- elements k to k + n of those in NTT form
pub ntt_form-part : (slice : List ℕ) (at : ℕ) (xs : List ℕ) (from k n w place first : ℕ) → NttForm slice at xs from w → k + n ≤ w → place ≡ at + 192 * k → first ≡ from + 64 * k
    → NttForm slice place xs first n
ntt_form-part slice at xs from k n w place first f h e e' =
    subst (λ p. NttForm slice p xs first n) (sym e) (subst (λ p. NttForm slice (at + 192 * k) xs p n) (sym e') record {
      ntt = λ j m a b.
          let there : at + 192 * k + 64 * j + 192 * m ≡ at + 64 * j + 192 * (k + m) = omega arith in
          let here : from + 64 * k + 64 * m ≡ from + 64 * (k + m) = omega arith in
          ap (λ p. part slice p 64) there ∙ f.ntt j (k + m) a (omega arith) ∙ ap (λ p. ntt_of j (part xs p 64)) (sym here);
      small = λ m o b.
          let here : from + 64 * k + 64 * m ≡ from + 64 * (k + m) = omega arith in
          subst (λ p. coeff (part xs p 64) o ≤ 4294967295) (sym here) (f.small (k + m) o b);
      within = omega (arith, f.within);
    })

-- their values
pub values-part : (slice : List ℕ) (at k n w place : ℕ) → AllValues slice at w → k + n ≤ w → place ≡ at + 192 * k → AllValues slice place n
values-part slice at k n w place v h e =
    subst (λ p. AllValues slice p n) (sym e) record {
      within = omega (arith, v.within);
      small = λ j m o a b l.
          let there : at + 192 * k + 64 * j + 192 * m + o ≡ at + 64 * j + 192 * (k + m) + o = omega arith in
          subst (λ p. get_or slice p 0 ≤ 134285152) (sym there) (v.small j (k + m) o a (omega arith) l);
    }

-- one more sum
pub block_next : (values : List ℕ) (n : ℕ) (S : List ℕ) (passes : ℕ → Bool) (at need : ℕ) (sums out : List Rq) (m : ℕ) (next : Rq) → m < length out
    → (passes m ≡ true → next.coeffs ≡ added_to values n S (at + m * need) (sum_at sums m)) → BlockAdded values n S m passes at need sums out
    → BlockAdded values n S (m + 1) passes at need sums (set out m next)
block_next values n S passes at need sums out m next h e before i l t = by (dec_lt i m)
  where
    by : Dec (i < m) → sum_at (set out m next) i ≡ added_to values n S (at + i * need) (sum_at sums i)
    by (yes less) = ap (λ (x : Rq). x.coeffs) (get_or-set_other out m i next (record { coeffs = [] }) (λ k. absurd (omega (arith, k)))) ∙ before i less t
    by (no more) =
        let k : m ≡ i = omega arith in
        subst (λ i. sum_at (set out m next) i ≡ added_to values n S (at + i * need) (sum_at sums i)) k
        (ap (λ (x : Rq). x.coeffs) (get_or-set_same out m next (record { coeffs = [] }) h) ∙ e (subst (λ i. passes i ≡ true) (sym k) t))

-- the sums of the first elements of a row
module _ (J : List ℕ) (row width : ℕ) (S : List ℕ) (count : ℕ) (passes : ℕ → Bool) (at need : ℕ) where
  abbrev pub Summed : ℕ → List Rq → Type 0
  Summed done sums =
      (m : ℕ) → m < count → passes m ≡ true → (xs : List ℕ) (from : ℕ) → NttForm S (at + m * need) xs from width → sum_at sums m ≡ words (dot done (run J row 64) (run xs from 64))

  pub summed_none : (z : Rq) → count ≤ 8 → z.coeffs ≡ rzero → Summed 0 (replicate 8 z)
  unfolding Ops.dot
  summed_none z few e m h t xs from f =
      ap (λ (x : Rq). x.coeffs) (get_or-replicate 8 m z (record { coeffs = [] }) (omega arith)) ∙ total-none z.coeffs (λ i. run J row 64 i ⊗ run xs from 64 i) e

  -- those of a block more
  pub summed_next : (values : List ℕ) (n done : ℕ) (sums sums' : List Rq) → n ≤ 64 → done + n ≤ width → NttForm values 0 J (row + 64 * done) n
      → BlockAdded values n S count passes (at + 192 * done) need sums sums' → Summed done sums → Summed (done + n) sums'
  summed_next values n done sums sums' few room kv added before m h t xs from f =
      words_of-sum (sum_at sums' m) (sum_at sums m) (words (ntt_dot values 0 S place n)) x y (added m h t) (stands_for (sum_at sums m) x (before m h t xs from f))
      (stands_for (words (ntt_dot values 0 S place n)) y (ap words product))
      ∙ ap words (ap₂ (λ f g. x ⊕ dot n f g) (run-from J row done (row + 64 * done) refl) (run-from xs from done (from + 64 * done) refl)
      ∙ sym (dot_split RqOps rq_ring done n (run J row 64) (run xs from 64)))
    where
      place : ℕ
      place = at + 192 * done + m * need

      x : RqOps.Carrier
      x = dot done (run J row 64) (run xs from 64)

      y : RqOps.Carrier
      y = dot n (run J (row + 64 * done) 64) (run xs (from + 64 * done) 64)

      product : ntt_dot values 0 S place n ≡ y
      product =
          ntt_dot_is values 0 J (row + 64 * done) S place xs (from + 64 * done) n few kv
          (ntt_form-part S (at + m * need) xs from done n width place (from + 64 * done) f room (omega arith) refl)
