-- Products with weights in NTT form: what they come to, and one more constraint's added.
use mathlib.Core.Path.{◌≡◌, sym, ap, ap₂, ◌∙◌}
use mathlib.Core.List.{List}
use Prim.Native.Nat.{ℕ, ◌+◌, ◌*◌, ◌≤◌, ◌<◌, ◌^◌}
use native.Mathlib.Nat.{zero-add}
use native.Mathlib.Omega.{arith}
use lib.ListN.{length, get_or, replicate, get_or-replicate}
use Rattle.math.specs.lists.Table.{table}
use Rattle.math.specs.lists.Part.{part, splice}
use Rattle.math.specs.lists.Sum.{Σ}
use Rattle.math.proofs.lists.Table.{table_ext}
use Rattle.math.proofs.lists.Sum.{Σ_ext}
use Rattle.math.proofs.lists.Splice.{part-splice-before}
use Rattle.math.specs.algebra.Ops as Ops
use Rattle.math.proofs.algebra.Sum.{sum_ext}
use Rattle.math.proofs.algebra.Dot.{dot_comm}
use Rattle.spec_leaves.specs.Rq.{Element, radd}
use Rattle.spec_leaves.specs.Ring.{RqOps, words, element}
use Rattle.spec_leaves.proofs.Bridge.{element-words, words-element}
use Rattle.spec_leaves.proofs.RqRing.{rq_ring}
use Rattle.ring_inner_product.specs.Run.{Run, run}
use Rattle.spec_protocol.specs.Views.{element_at}
use Rattle.spec_protocol.specs.Formulas.{◌⊕◌, ◌⊗◌, sum, dot, flat}
use Rattle.spec_protocol.proofs.Stored.{stored-rest}
use Rattle.ring_rq_matrix.proofs.Place.{rows-within}
use Rattle.ring_rq_matrix.proofs.Word.{stands_for, words_of-sum}
use Rattle.ring_rq_matrix.proofs.Fill.{fill_next}
use Rattle.ntt_vectors.specs.NttForm.{ntt_form, NttForm}
use Rattle.ntt_vectors.specs.Sums.{inverse_from, HoldsSums}
use Rattle.ntt_vectors.proofs.SumsLaws.{part-words, ntt_form-value, inverse-holds, inverse_from-element}
use Rattle.core_aggregate_ntt.specs.Terms.{terms_added}
use Rattle.core_aggregate_ntt.proofs.Terms.{length-terms, term_at}
use Rattle.load_constraints.specs.Products.{ntt_line, Before, with_line, with_terms}

-- the words of the sums and the inverse NTT
pub line_words : (J : List ℕ) (at n : ℕ) (transformed sums r : List ℕ) → sums ≡ terms_added (replicate 192 0) transformed 0 J at 64 n → r ≡ inverse_from sums 0
    → r ≡ words (ntt_line J at n transformed)
unfolding ntt_line
line_words J at n transformed sums r a e =
    e ∙ ap (λ s. inverse_from s 0) a
    ∙ sym (words-element (inverse_from (terms_added (replicate 192 0) transformed 0 J at 64 n) 0) (inverse_from-element (terms_added (replicate 192 0) transformed 0 J at 64 n) 0))

-- what lies before a store keeps its products
pub ntt_line-before : (J J' : List ℕ) (at n : ℕ) (transformed : List ℕ) (to : ℕ) (new : List ℕ) → J' ≡ splice J to new → at + 64 * n ≤ to → ntt_line J' at n transformed ≡ ntt_line J at n transformed
unfolding ntt_line terms_added
ntt_line-before J J' at n transformed to new e h =
    ap (λ t. element (inverse_from t 0))
    (table_ext 192 (λ k. get_or (replicate 192 z) k 0 + Σ n (term J' k)) (λ k. get_or (replicate 192 z) k 0 + Σ n (term J k)) (λ k l.
    ap (λ x. get_or (replicate 192 z) k 0 + x) (Σ_ext n (term J' k) (term J k) (λ m b.
    ap (λ x. get_or transformed (0 + 192 * m + k) 0 * get_or (ntt_form x) k 0) (ap (λ l. part l (at + 64 * m) 64) e ∙ part-splice-before 0 J to new (at + 64 * m) 64 (omega arith))))))
  where
    z : ℕ
    z = 0

    term : List ℕ → ℕ → ℕ → ℕ
    term l k m = get_or transformed (0 + 192 * m + k) 0 * get_or (ntt_form (part l (at + 64 * m) 64)) k 0

module _ (J : List ℕ) (at n : ℕ) (transformed W : List ℕ) (s-at : ℕ) (few : n ≤ 64) (form : NttForm transformed 0 W s-at n) (job : (j : ℕ) → get_or J j 0 ≤ 4294967295) where
  abbrev weights : ℕ → List ℕ
  weights m = part W (s-at + 64 * m) 64

  abbrev elements : ℕ → List ℕ
  elements m = part J (at + 64 * m) 64

  abbrev sums : List ℕ
  sums = terms_added (replicate 192 0) transformed 0 J at 64 n

  holds : HoldsSums sums 0 n weights elements
  holds k l =
      let z : ℕ = 0 in
      ap (λ j. get_or sums j 0) (zero-add k)
      ∙ term_at (replicate 192 0) transformed 0 J at 64 n k l
      ∙ ap₂ ◌+◌ (get_or-replicate 192 k z z l)
      (Σ_ext n (λ m. get_or transformed (0 + 192 * m + k) 0 * get_or (ntt_form (elements m)) k 0) (λ m. get_or (ntt_form (weights m)) k 0 * get_or (ntt_form (elements m)) k 0)
      (λ m b. ap (λ x. x * get_or (ntt_form (elements m)) k 0) (ntt_form-value transformed 0 W s-at n form m k b l)))
      ∙ zero-add (Σ n (λ m. get_or (ntt_form (weights m)) k 0 * get_or (ntt_form (elements m)) k 0))

  pub ntt_line_is : ntt_line J at n transformed ≡ sum n (λ m. run J at 64 m ⊗ run W s-at 64 m)
  unfolding ntt_line Ops.dot
  ntt_line_is =
      ap element (inverse-holds sums 0 n weights elements (omega (arith, length-terms (replicate 192 0) transformed 0 J at 64 n)) holds (omega arith)
      form.small (λ m. part-words J job (at + 64 * m)))
      ∙ element-words (dot n (run W s-at 64) (run J at 64))
      ∙ dot_comm RqOps rq_ring n (run W s-at 64) (run J at 64)

-- n elements of constraint k end before the sums
pub cells_before : (base m cell n count to k : ℕ) → base + 64 * (count * m) ≤ to → cell + n ≤ m → k < count → base + 64 * (k * m + cell) + 64 * n ≤ to
cells_before base m cell n count to k h l below = omega (arith, rows-within k count m below)

-- and lie within the slice
pub cells_run : (J job : List ℕ) (base m cell n count to k at : ℕ) → Before J base m to count → cell + n ≤ m → n ≤ 64 → k < count
    → at ≡ base + 64 * (k * m + cell) → length job ≡ length J → length job < 2 ^ 61 → Run job at 64 n
cells_run J job base m cell n count to k at before inside few below there size short = record {
  within = λ j h. omega (arith, before, cells_before base m cell n count to k before.before inside below);
  few = omega arith;
  near = omega arith;
  first = omega (arith, before, cells_before base m cell n count to k before.before inside below);
}

-- one more constraint
pub line_next : (J job : List ℕ) (base m cell n count to k at : ℕ) (transformed : List ℕ) (place : ℕ) (x p e next : List ℕ) → Before J base m to count → cell + n ≤ m → k < count
    → at ≡ base + 64 * (k * m + cell)
    → job ≡ splice J to (flat (table k (with_line J base m to cell n transformed)))
    → place ≡ to + 64 * k
    → x ≡ part job place 64
    → p ≡ words (ntt_line job at n transformed)
    → e ≡ radd x p
    → next ≡ splice job place e
    → next ≡ splice J to (flat (table (k + 1) (with_line J base m to cell n transformed)))
line_next J job base m cell n count to k at transformed place x p e next before inside below there now here read product sum stored =
    let f : ℕ → Element = with_line J base m to cell n transformed in
    let old = ap element (read ∙ ap (λ q. part job q 64) here ∙ stored-rest J job to k f (to + 64 * k) 64 now (omega arith)) in
    let one : Element = ntt_line J (base + 64 * (k * m + cell)) n transformed in
    let ends : at + 64 * n ≤ to = omega (arith, cells_before base m cell n count to k before.before inside below) in
    let line = product ∙ ap words (ntt_line-before J job at n transformed to (flat (table k f)) now ends ∙ ap (λ q. ntt_line J q n transformed) there) in
    fill_next J to job next e k place f now here (words_of-sum e x p (element_at J to k) one sum old (stands_for p one line)) stored

-- the products with weights in NTT form are those with the weights
pub block_is : (J : List ℕ) (base m to cell n count : ℕ) (transformed W : List ℕ) (s-at : ℕ) (next : List ℕ) → n ≤ 64 → NttForm transformed 0 W s-at n → ((j : ℕ) → get_or J j 0 ≤ 4294967295)
    → next ≡ splice J to (flat (table count (with_line J base m to cell n transformed)))
    → next ≡ splice J to (flat (table count (with_terms J base m to cell n (run W s-at 64))))
block_is J base m to cell n count transformed W s-at next few form job made =
    made
    ∙ ap (λ es. splice J to (flat es)) (table_ext count (with_line J base m to cell n transformed) (with_terms J base m to cell n (run W s-at 64)) (λ k l.
    ap (λ e. element_at J to k ⊕ e) (ntt_line_is J (base + 64 * (k * m + cell)) n transformed W s-at few form job
    ∙ sum_ext RqOps n (λ j. run J (base + 64 * (k * m + cell)) 64 j ⊗ run W s-at 64 j) (λ j. element_at J base (k * m + (cell + j)) ⊗ run W s-at 64 j)
    (λ j h. ap (λ q. element (part J q 64) ⊗ run W s-at 64 j) (place k j)))))
  where
    place : (k j : ℕ) → base + 64 * (k * m + cell) + 64 * j ≡ base + 64 * (k * m + (cell + j))
    place k j = omega arith
