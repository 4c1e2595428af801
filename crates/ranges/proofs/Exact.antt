-- "Where low equals high throughout, the answer agrees with refusal 13."
use mathlib.Core.Path.{◌≡◌, refl, sym, ap, subst, ◌∙◌}
use mathlib.Core.Bool.{cond}
use mathlib.Core.List.{List, [], ◌∷◌, map}
use Prim.Native.Nat.{ℕ, zero, suc, ◌+◌, ◌-◌, ◌*◌, ◌≤◌, ◌<◌}
use native.Mathlib.Nat.{mul-le-mul_right, mul-le-mul}
use native.Mathlib.Decide.{dec_le}
use native.Mathlib.Omega.{arith}
use borrow.Author.Tests.{lt-ltb, le-ltb}
use lib.Dec.{eqb}
use lib.IntN.{ℤ, pos, negsuc, nat_abs}
use lib.ListN.{length, get_or, length-map, get_or-map}
use Rattle.math.specs.lists.Table.{table}
use Rattle.math.specs.lists.Part.{part}
use Rattle.math.specs.lists.Sum.{Σ}
use Rattle.math.proofs.lists.Sum.{Σ_ext}
use Rattle.math.proofs.lists.Table.{table_ext}
use Rattle.math.proofs.lists.Splice.{length_part, get_d_part}
use Rattle.spec_leaves.specs.Zq.{Q, half_Q, size}
use Rattle.spec_leaves.specs.Norm as Words
use Rattle.spec_leaves.specs.Answer.{fine, refused}
use Rattle.spec_leaves.specs.Ring.{element}
use Rattle.spec_protocol.specs.Checks.{require, first}
use Rattle.spec_protocol.specs.Parameters.{Parameters, parameters}
use Rattle.spec_protocol.specs.Layout.{span, start, sections, witness_sections, job_refusal, witness_refusal}
use Rattle.spec_protocol.specs.Views.{public, witness}
use Rattle.spec_protocol.specs.Formulas.{norm_of}
use Rattle.spec_protocol.specs.Prover.{witness_norm}
use Rattle.spec_protocol.specs.Ranges.{number_at, square, norm, Answered, vector, AllHold, ranges_count, pairs_refusal, ranges_refusal, word, exact_witness}
use Rattle.spec_protocol.proofs.Fine.{then_both_fine, then_fine_left, then_fine_right}
use Rattle.spec_protocol.proofs.Checks.{first_ext}
use Rattle.spec_protocol.proofs.Sections.{Filled, none, more, length-sections, section_word, layout-fine, ranged-fine}
use Rattle.spec_protocol.proofs.Ranges.{exact_never_some, exact_least, exact_greatest, exact_test}
use Rattle.layout_sizes.specs.Sizes.{Sized}
use Rattle.admission_slices.proofs.Ready.{job-sized}
use Rattle.ring_inner_product.specs.Run.{run}
use Rattle.ring_zq.proofs.Part.{norm-part}
use Rattle.ring_digit_norms.proofs.Squares.{norm_of-run}
use Rattle.ranges_vectors.specs.Ends.{Centred}
use Rattle.ranges.specs.Answers.{lists_refusal}
use Rattle.ranges.proofs.Ready.{Ready, ready}

-- the word of a centred number is canonical
word-canonical : (x : ℤ) → Centred x → word x < Q
word-canonical (pos n) h = omega arith
word-canonical (negsuc n) h = omega arith

-- and centres to the number's size
word_size : (x : ℤ) → Centred x → size (word x) ≡ nat_abs x
word_size (pos n) h = ap (λ b. cond b (Q - n) n) (le-ltb half_Q n h)
word_size (negsuc n) h = let l : half_Q < Q - suc n = omega arith in ap (λ b. cond b (Q - (Q - suc n)) (Q - suc n)) (lt-ltb half_Q (Q - suc n) l) ∙ back n h
  where
    back : (n : ℕ) → suc n ≤ half_Q → Q - (Q - suc n) ≡ suc n
    back n h = omega arith

module _ (J R : List ℕ) (xs : List ℤ) (a : ℕ → Answered) (ok : ranges_refusal J xs xs ≡ fine) (hold : AllHold (parameters J) xs xs a) where
  abbrev P : Parameters
  P = parameters J

  abbrev W : List ℕ
  W = exact_witness xs

  pairs-ready : Ready (ranges_count P) xs xs
  unfolding ranges_refusal pairs_refusal
  pairs-ready = ready (ranges_count P) xs xs (then_fine_right (job_refusal J) (lists_refusal (ranges_count P) xs xs) ok)

  sized : Sized P
  unfolding ranges_refusal
  sized = job-sized J P (sym (then_fine_left (job_refusal J) (pairs_refusal P xs xs) ok)) refl

  -- the witness has its section, each word canonical
  filled : Filled (witness_sections P) (map word xs ∷ [])
  filled = more (length-map xs word ∙ pairs-ready.lows_count) in_range none
    where
      in_range : (k : ℕ) → k < length (map word xs) → get_or (map word xs) k 0 < Q
      in_range k h =
          let l : k < length xs = subst (λ n. k < n) (length-map xs word) h in
          rw (get_or-map word xs k (pos 0)) (word-canonical (number_at xs k) (pairs-ready.centred.low k l))

  -- it is refused neither by 11 nor by 12
  pub exact_not_refused : witness_refusal P W ≡ fine
  unfolding witness_refusal
  exact_not_refused = then_both_fine (layout-fine filled 11) (ranged-fine filled 12)

  -- its words
  length_W : length W ≡ 1 + ranges_count P
  unfolding span
  length_W = length-sections filled ∙ omega arith

  word_at : (j : ℕ) → j < ranges_count P → get_or W (1 + j) 0 ≡ word (number_at xs j)
  unfolding start
  word_at j h =
      section_word filled 0 j (rw (length-map xs word, pairs-ready.lows_count) h) ∙ get_or-map word xs j (pos 0)

  first_word : get_or W 0 0 ≤ Q
  unfolding sections
  first_word =
      let e = length-map xs word in
      let f = pairs-ready.lows_count in
      let m : P.r * P.n ≤ 16 * 64 = mul-le-mul sized.within.r.1 sized.within.n.1 in
      omega arith

  all_words : (i : ℕ) → i < length W → get_or W i 0 ≤ Q
  all_words zero h = first_word
  all_words (suc k) h =
      let l : k < ranges_count P = omega (arith, length_W) in
      let e = pairs-ready.lows_count in
      let c = word-canonical (number_at xs k) (pairs-ready.centred.low k (omega arith)) in
      subst (λ m. get_or W m 0 ≤ Q) (one_more k) (rw (word_at k l) (omega arith))
    where
      one_more : (k : ℕ) → 1 + k ≡ suc k
      one_more k = omega arith

  -- the norm of vector i is that of its numbers
  module _ (i : ℕ) (h : i < P.r) where
    within : i * P.n + P.n ≤ P.r * P.n
    within = omega (arith, mul-le-mul_right P.n h)

    fits : 1 + 64 * (i * P.n) + 64 * P.n ≤ length W
    fits = omega (arith, length_W, within)

    place : (m : ℕ) → start (witness_sections P) 0 + 64 * (i * P.n + m) ≡ 1 + 64 * (i * P.n) + 64 * m
    unfolding start
    place m = omega arith

    number_of : (j : ℕ) → j < 64 * P.n → get_or W (1 + 64 * (i * P.n) + j) 0 ≡ word (number_at (vector P xs i) j)
    number_of j l =
        ap (λ k. get_or W k 0) (joined P.n j)
        ∙ word_at (64 * (i * P.n) + j) (omega (arith, within))
        ∙ ap word (ap (number_at xs) (moved P.n j) ∙ sym (get_d_part (pos 0) xs (i * (64 * P.n)) (64 * P.n) j l))
      where
        joined : (n j : ℕ) → 1 + 64 * (i * n) + j ≡ 1 + (64 * (i * n) + j)
        joined n j = omega arith

        moved : (n j : ℕ) → 64 * (i * n) + j ≡ i * (64 * n) + j
        moved n j = omega arith

    centred_at : (j : ℕ) → j < 64 * P.n → Centred (number_at (vector P xs i) j)
    centred_at j l =
        let e = pairs-ready.lows_count in
        rw (get_d_part (pos 0) xs (i * (64 * P.n)) (64 * P.n) j l) (pairs-ready.centred.low (i * (64 * P.n) + j) (omega (arith, within)))

    norm-vector : norm (vector P xs i) ≡ Σ (64 * P.n) (λ j. square (number_at (vector P xs i) j))
    unfolding norm
    norm-vector =
        let e = pairs-ready.lows_count in
        ap (λ k. Σ k (λ j. square (number_at (vector P xs i) j))) (length_part xs (i * (64 * P.n)) (64 * P.n) (omega (arith, within)))

    norm-same : norm_of (table P.n (witness P W i)) ≡ norm (vector P xs i)
    norm-same =
        ap norm_of (table_ext P.n (witness P W i) (run W (1 + 64 * (i * P.n)) 64) (λ m l. ap (λ k. element (part W k 64)) (place m)))
        ∙ sym (norm_of-run W (1 + 64 * (i * P.n)) P.n fits all_words)
        ∙ norm-part W (1 + 64 * (i * P.n)) (64 * P.n) fits
        ∙ Σ_ext (64 * P.n) (λ j. Words.square (get_or W (1 + 64 * (i * P.n) + j) 0)) (λ j. square (number_at (vector P xs i) j))
        (λ j l. ap Words.square (number_of j l) ∙ ap (λ s. s * s) (word_size (number_at (vector P xs i) j) (centred_at j l)))
        ∙ sym norm-vector

  -- no vector meets the bound for some only, and both norms are the vector's
  pub exact_meets : (i : ℕ) → i < P.r → (a i).meets ≡ 2 → ⊥
  exact_meets i h e = exact_never_some (vector P xs i) P.bound_A (hold i h).meets e

  pub exact_norms : (i : ℕ) → i < P.r → ((a i).least ≡ norm (vector P xs i)) × ((a i).greatest ≡ norm (vector P xs i))
  exact_norms i h = (exact_least (vector P xs i) (hold i h).least, exact_greatest (vector P xs i) (hold i h).greatest)

  -- 13 is given exactly where some vector meets the bound for none, at the lowest such
  pub exact_13 : witness_norm (public J R) (witness P W) ≡ first P.r (λ i. cond (eqb (a i).meets 3) (refused 13 i) fine)
  unfolding witness_norm
  exact_13 =
      first_ext P.r (λ i. require (dec_le (norm_of (table P.n (witness P W i))) P.bound_A) (refused 13 i)) (λ i. cond (eqb (a i).meets 3) (refused 13 i) fine)
      (λ i h. ap (λ m. require (dec_le m P.bound_A) (refused 13 i)) (norm-same i h) ∙ exact_test (vector P xs i) P.bound_A (refused 13 i) (hold i h).meets)
