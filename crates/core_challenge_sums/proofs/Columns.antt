-- The sums of products of z's values and those of Σ c_i·x_i: one element more, and the inverse NTT.
use mathlib.Core.Path.{◌≡◌, refl, sym, ap, ap₂, subst, ◌∙◌}
use mathlib.Core.List.{List}
use Prim.Native.Nat.{ℕ, ◌+◌, ◌*◌, ◌%◌, ◌≤◌, ◌<◌}
use native.Mathlib.Nat.{zero-add, mul-le-mul_left}
use native.Mathlib.Decide.{dec_lt}
use native.Mathlib.Omega.{arith}
use lib.Seq.{take-length}
use lib.ListN.{length, get_or, take, replicate, get_or-replicate, get_or-eq_default}
use Rattle.math.specs.lists.Table.{table}
use Rattle.math.specs.lists.Part.{part}
use Rattle.math.specs.lists.Sum.{Σ}
use Rattle.math.proofs.lists.Table.{length-table, get_or-table}
use Rattle.math.proofs.lists.Part.{part_flat_map}
use Rattle.math.proofs.lists.Sum.{Σ_ext}
use Rattle.math.proofs.algebra.Dot.{dot_ext}
use Rattle.spec_leaves.specs.Zq.{Q}
use Rattle.spec_leaves.specs.Rq.{Element, coeff}
use Rattle.spec_leaves.specs.Ring.{RqOps, words, element, canonical_mod, table_element}
use Rattle.ring_challenge_products.specs.Powers.{row_product, powers_product}
use Rattle.spec_leaves.proofs.Bridge.{element-words, words-element, coeff-canonical}
use Rattle.spec_protocol.specs.Formulas.{dot, flat}
use Rattle.spec_protocol.proofs.Flat.{length-words, flat-canonical}
use Rattle.ring_inner_product.specs.declared.Strided.{Strided}
use Rattle.ring_inner_product.specs.Run.{run}
use Rattle.ntt_product.proofs.Residue.{Words}
use Rattle.ntt_vectors.specs.NttForm.{ntt_form, NttForm}
use Rattle.ntt_vectors.specs.Sums.{inverse_from, HoldsSums}
use Rattle.ntt_vectors.proofs.SumsLaws.{ntt_form-value, inverse-holds, inverse_from-element}
use Rattle.core_aggregate.specs.Weighed.{Rows}
use Rattle.core_aggregate_ntt.specs.Terms.{terms_added}
use Rattle.core_aggregate_ntt.proofs.Terms.{length-terms, term_at}
use Rattle.core_challenge_sums.specs.Lines.{combined, combined_words, combined_line}

-- element m of the words of n elements
pub part_of-words : (n : ℕ) (f : ℕ → Element) (m : ℕ) → m < n → part (flat (table n f)) (0 + 64 * m) 64 ≡ words (f m)
unfolding flat
part_of-words n f m l =
    ap (λ p. part (flat (table n f)) p 64) (zero-add (64 * m))
    ∙ part_flat_map words 64 length-words (table n f) m (f m) (omega (arith, length-table n f))
    ∙ ap words (get_or-table n f m (f m) l)

-- the words of elements are words
pub flat-small : (es : List Element) (j : ℕ) → get_or (flat es) j 0 ≤ 4294967295
flat-small es j = either (dec_lt j (length (flat es)))
  where
    either : Dec (j < length (flat es)) → get_or (flat es) j 0 ≤ 4294967295
    either (yes h) = omega (arith, flat-canonical es j h)
    either (no h) = omega (arith, get_or-eq_default (flat es) 0 {n = j} (omega arith))

-- those of one are all that it has
pub whole_words : (l : List ℕ) (e : Element) → l ≡ words e → part l 0 64 ≡ words e
whole_words l e h = ap (λ l. part l 0 64) h ∙ ap (λ n. take n (words e)) (sym (length-words e)) ∙ take-length (words e)

-- and are words
words_small : (e : Element) → Words (words e)
words_small e k l = omega (arith, coeff-canonical e k)

-- the words of a product with powers
pub product_words : (powers words' : List ℕ) (at r n m : ℕ) → powers_product powers words' (at + 64 * m) (64 * n) r ≡ words (combined words' at r n powers m)
unfolding combined powers_product
product_words powers words' at r n m = sym (words-element (powers_product powers words' (at + 64 * m) (64 * n) r) (table_element (λ k. total k % Q) (λ k. canonical_mod (total k))))
  where
    total : ℕ → ℕ
    total k = Σ r (λ i. coeff (row_product powers i (part words' (at + 64 * m + 64 * n * i) 64)) k)

-- the vectors of constraint k end within the slice
pub row_within : (words : List ℕ) (x : Strided) (width k : ℕ) → Rows words x width → k < x.count → x.at + x.step * k + 64 * width ≤ length words
row_within words x width k h l = subst (λ step. x.at + step * k + 64 * width ≤ length words) (sym h.1) (omega (arith, h.0.within, mul-le-mul_left width l))

module _ (words' : List ℕ) (at r n : ℕ) (powers z : List ℕ) where
  abbrev e : ℕ → Element
  e = combined words' at r n powers

  abbrev sums : List ℕ
  sums = terms_added (replicate 192 0) z 0 (combined_words words' at r n powers) 0 64 n

  -- the words of the inverse NTT
  pub line_words : (s r' : List ℕ) → s ≡ sums → r' ≡ inverse_from s 0 → r' ≡ words (combined_line words' at r n powers z)
  unfolding combined_line
  line_words s r' made back = back ∙ ap (λ s. inverse_from s 0) made ∙ sym (words-element (inverse_from sums 0) (inverse_from-element sums 0))

  -- it is the inner product with the elements whose NTT form z is
  module _ (Z : List ℕ) (z_at : ℕ) (few : n ≤ 64) (form : NttForm z 0 Z z_at n) where
    abbrev a : ℕ → List ℕ
    a m = part Z (z_at + 64 * m) 64

    holds : HoldsSums sums 0 n a (λ m. words (e m))
    holds k l =
        let o : ℕ = 0 in
        ap (λ j. get_or sums j 0) (zero-add k)
        ∙ term_at (replicate 192 0) z 0 (combined_words words' at r n powers) 0 64 n k l
        ∙ ap₂ ◌+◌ (get_or-replicate 192 k o o l)
        (Σ_ext n (λ m. get_or z (0 + 192 * m + k) 0 * get_or (ntt_form (part (combined_words words' at r n powers) (0 + 64 * m) 64)) k 0)
        (λ m. get_or (ntt_form (a m)) k 0 * get_or (ntt_form (words (e m))) k 0)
        (λ m b. ap₂ ◌*◌ (ntt_form-value z 0 Z z_at n form m k b l) (ap (λ p. get_or (ntt_form p) k 0) (part_of-words n e m b))))
        ∙ zero-add (Σ n (λ m. get_or (ntt_form (a m)) k 0 * get_or (ntt_form (words (e m))) k 0))

    pub line_is : combined_line words' at r n powers z ≡ dot n (run Z z_at 64) e
    unfolding combined_line
    line_is =
        ap element
        (inverse-holds sums 0 n a (λ m. words (e m)) (omega (arith, length-terms (replicate 192 0) z 0 (combined_words words' at r n powers) 0 64 n)) holds (omega arith) form.small
        (λ m. words_small (e m)))
        ∙ element-words (dot n (run Z z_at 64) (λ m. element (words (e m))))
        ∙ dot_ext RqOps n (run Z z_at 64) (run Z z_at 64) (λ m. element (words (e m))) e (λ m l. refl) (λ m l. element-words (e m))
