-- The products of the rows, read from a window of the scratch, and the checks that take them.
use mathlib.Core.Path.{◌≡◌, refl, sym, ap, ap₂, subst, ◌∙◌}
use mathlib.Core.Bool.{Bool, cond}
use mathlib.Core.List.{List, [], ◌++◌}
use Prim.Native.Nat.{ℕ, ◌+◌, ◌-◌, ◌*◌, ◌≤◌, ◌<◌}
use native.Mathlib.Omega.{arith}
use lib.ListN.{length, take, drop}
use lib.Seq.{take-append_seam, drop-drop}
use Rattle.math.specs.lists.Table.{table}
use Rattle.math.specs.lists.Part.{part}
use Rattle.math.proofs.lists.Table.{length-table, get_or-table}
use Rattle.math.proofs.lists.Part.{part_of-take, part_flat_map}
use Rattle.math.proofs.lists.Splice.{length_part, get_d_part}
use Rattle.spec_leaves.specs.Answer.{Answer, fine, failed}
use Rattle.spec_leaves.specs.Rq.{Element, radd}
use Rattle.spec_leaves.specs.Ring.{words}
use Rattle.spec_leaves.proofs.Bridge.{words-element}
use Rattle.ring_inner_product.specs.Run.{run}
use Rattle.spec_protocol.specs.Checks.{require, first}
use Rattle.spec_protocol.specs.Parameters.{parameters}
use Rattle.spec_protocol.specs.Layout.{scratch_need}
use Rattle.spec_protocol.specs.Views.{message}
use Rattle.spec_protocol.specs.Formulas.{◌⊕◌, dot, flat, u₁_of, u₂_of}
use Rattle.spec_protocol.specs.Verifier.{same, check_28, check_29}
use Rattle.spec_protocol.proofs.Flat.{length-words, length-flat-table}
use Rattle.spec_protocol.specs.Many.{row_count, row_product, products_at, RowsDone}
use Rattle.ring_rq_matrix.proofs.Word.{stands_for, words_of-sum}
use Rattle.commitments_outer.specs.Cells.{CanonicalFrom}
use Rattle.relation_env_params.specs.declared.env_params.EnvironmentParameters.{EnvironmentParameters}
use Rattle.relation_env_params.specs.Parameters.{parameters_of}
use Rattle.verifier_common.specs.Work.{Posed, equal}
use Rattle.verifier_common.specs.Answers.{u1_differs, u2_differs}
use Rattle.verifier_common.proofs.Runs.{require-equal}
use Rattle.verifier_common.proofs.Verdicts.{first-failed}
use Rattle.verifier_common.proofs.Sent.{transcript_at, reckoned}
use Rattle.verifier_commitments.proofs.OuterLaws.{job_at, u₁-within, u₁-canonical, u₂-within, u₂-canonical}
use Rattle.verify_many_windows.specs.Row.{of_B, of_C, of_D}
use Rattle.verify_many_windows.proofs.Products.{a_is, a-row, b-row, c-row, d_row}

-- element m of words that start with those of elements
element-words : (ws rest : List ℕ) (n m : ℕ) (f : ℕ → Element) → ws ≡ flat (table n f) ++ rest → m < n → part ws (64 * m) 64 ≡ words (f m)
unfolding flat
element-words ws rest n m f e h =
    let F = flat (table n f) in
    let size : length F ≡ 64 * n = length-flat-table n f in
    sym (part_of-take (length F) ws (64 * m) 64 (omega arith))
    ∙ ap (λ l. part (take (length F) l) (64 * m) 64) e
    ∙ ap (λ l. part l (64 * m) 64) (take-append_seam F rest)
    ∙ part_flat_map words 64 length-words (table n f) m (f 0) (omega (arith, length-table n f))
    ∙ ap words (get_or-table n f m (f 0) h)

-- the words of an element of canonical words
sent-words : (X : List ℕ) (at n k : ℕ) → at + 64 * n ≤ length X → CanonicalFrom X at (64 * n) → k < n → part X (at + 64 * k) 64 ≡ words (run X at 64 k)
sent-words X at n k h c l =
    let size : length (part X (at + 64 * k) 64) ≡ 64 = length_part X (at + 64 * k) 64 (omega arith) in
    sym
    (words-element (part X (at + 64 * k) 64) (
      size,
      λ i m.
          let place : at + (64 * k + i) ≡ at + 64 * k + i = omega arith in
          let b : i < 64 = omega (arith, size) in
          rw (get_d_part 0 X (at + 64 * k) 64 i b, ← place) (c (64 * k + i) (omega arith)),
    ))

-- tests one after the other, of which one fails or none
pub tests_fail : (n k : ℕ) (f : ℕ → Answer) (number : ℕ) → k < n → first k f ≡ fine → f k ≡ failed number [] → failed number [] ≡ first n f
tests_fail n k f number h e g = sym (first-failed n k f number [] h e g)

pub tests_pass : (n k : ℕ) (f : ℕ → Answer) → k ≡ n → first k f ≡ fine → fine ≡ first n f
tests_pass n k f h e = sym (ap (λ m. first m f) (sym h) ∙ e)

-- check 28 for row k, and check 29
abbrev pub u1_test : (J X : List ℕ) → ℕ → Answer
u1_test J X k = require (same ((message (parameters J) X).u₁ k) (of_B J X k ⊕ of_C J X k)) (failed 28 [])

abbrev pub u2_test : (J X : List ℕ) → ℕ → Answer
u2_test J X k = require (same ((message (parameters J) X).u₂ k) (of_D J X k)) (failed 29 [])

module _ (J X : List ℕ) (params : EnvironmentParameters) (s : Posed J X params) where
  -- all rows' tests are the check
  pub u1_is : first params.kappa_1 (u1_test J X) ≡ u1_differs J X
  unfolding check_28 u₁_of
  u1_is = ap (λ Q. first Q.κ₁ (u1_test J X)) s.same

  pub u2_is : first params.kappa_2 (u2_test J X) ≡ u2_differs J X
  unfolding check_29 u₂_of
  u2_is = ap (λ Q. first Q.κ₂ (u2_test J X)) s.same

  -- the rows are few
  pub rows_few : (params.kappa ≤ 16) × (params.kappa_1 ≤ 16) × (params.kappa_2 ≤ 16)
  rows_few =
      let w = (reckoned s).within in
      (w.κ.1, w.κ₁.1, w.κ₂.1)

  -- the length needed, by the parameters that the code holds
  pub need_within : (W : List ℕ) → scratch_need (parameters J) ≤ length W → scratch_need (parameters_of params) ≤ length W
  need_within W h = subst (λ Q. scratch_need Q ≤ length W) (sym s.same) h

  -- a row's product, read
  module _ (W : List ℕ) (done : RowsDone J X W (row_count (parameters J))) where
    read : (ρ : ℕ) (l : List ℕ) → ρ < row_count (parameters_of params) → l ≡ part W (products_at (parameters_of params) + 64 * ρ) 64 → l ≡ words (row_product J X ρ)
    unfolding RowsDone
    read ρ l h e =
        e
        ∙ ap (λ Q. part W (products_at Q + 64 * ρ) 64) s.same
        ∙ sym (ap (take 64) (drop-drop (64 * ρ) (products_at (parameters J)) W))
        ∙ element-words (drop (products_at (parameters J)) W) _ (row_count (parameters J)) ρ (row_product J X) done (subst (λ Q. ρ < row_count Q) s.same h)

    -- of A with z, as check 24 takes it
    pub read_a : (k : ℕ) (l : List ℕ) → k < params.kappa → l ≡ part W (products_at (parameters_of params) + 64 * k) 64
        → l ≡ words (dot params.rank (run J (job_at (parameters_of params) 6 + 64 * (k * params.rank)) 64) (run X (transcript_at (parameters_of params) 4) 64))
    read_a k l h e =
        read k l (omega arith) e ∙ ap words (sym (a-row J X params s k h)) ∙ sym (a_is J X params s (job_at (parameters_of params) 6) (transcript_at (parameters_of params) 4) k _ refl refl refl)

    -- of B with the digits of t
    read_b : (k : ℕ) (l : List ℕ) → k < params.kappa_1 → l ≡ part W (products_at (parameters_of params) + 64 * (params.kappa + k)) 64 → l ≡ words (of_B J X k)
    read_b k l h e =
        let back : params.kappa + k - params.kappa ≡ k = omega arith in
        read (params.kappa + k) l (omega arith) e ∙ ap words (sym (b-row J X params s (params.kappa + k) (omega arith) (omega arith)) ∙ ap (of_B J X) back)

    -- of C with the digits of g
    read_c : (k : ℕ) (l : List ℕ) → k < params.kappa_1 → l ≡ part W (products_at (parameters_of params) + 64 * (params.kappa + params.kappa_1 + k)) 64 → l ≡ words (of_C J X k)
    read_c k l h e =
        let back : params.kappa + params.kappa_1 + k - (params.kappa + params.kappa_1) ≡ k = omega arith in
        read (params.kappa + params.kappa_1 + k) l (omega arith) e ∙ ap words (sym (c-row J X params s (params.kappa + params.kappa_1 + k) (omega arith) (omega arith)) ∙ ap (of_C J X) back)

    -- of D with the digits of h
    read_d : (k : ℕ) (l : List ℕ) → k < params.kappa_2 → l ≡ part W (products_at (parameters_of params) + 64 * (params.kappa + params.kappa_1 + params.kappa_1 + k)) 64
        → l ≡ words (of_D J X k)
    read_d k l h e =
        let back : params.kappa + params.kappa_1 + params.kappa_1 + k - (params.kappa + params.kappa_1 + params.kappa_1) ≡ k = omega arith in
        read (params.kappa + params.kappa_1 + params.kappa_1 + k) l (omega arith) e
        ∙ ap words (sym (d_row J X params s (params.kappa + params.kappa_1 + params.kappa_1 + k) (omega arith)) ∙ ap (of_D J X) back)

    -- check 28 for row k by the boolean's value, of the words that are compared
    pub u1_tested : (u-at k : ℕ) (sent b c sum : List ℕ) (t : Bool) → k < params.kappa_1 → u-at ≡ transcript_at (parameters_of params) 0
        → sent ≡ part X (u-at + 64 * k) 64
        → b ≡ part W (products_at (parameters_of params) + 64 * (params.kappa + k)) 64
        → c ≡ part W (products_at (parameters_of params) + 64 * (params.kappa + params.kappa_1 + k)) 64
        → sum ≡ radd b c → t ≡ equal sent sum → u1_test J X k ≡ cond t fine (failed 28 [])
    u1_tested u-at k sent b c sum t h eu es eb ec e v =
        let l : sent ≡ words ((message (parameters J) X).u₁ k) =
        es
        ∙ sent-words X u-at params.kappa_1 k (u₁-within J X params s u-at eu) (u₁-canonical J X params s u-at eu) h
        ∙ ap (λ a. words (run X a 64 k)) (eu ∙ ap (λ Q. transcript_at Q 0) s.same) in
        let r : sum ≡ words (of_B J X k ⊕ of_C J X k) =
        words_of-sum sum b c (of_B J X k) (of_C J X k) e (stands_for b (of_B J X k) (read_b k b h eb)) (stands_for c (of_C J X k) (read_c k c h ec)) in
        require-equal (words ((message (parameters J) X).u₁ k)) (words (of_B J X k ⊕ of_C J X k)) (failed 28 []) t (v ∙ ap₂ equal l r)

    -- check 29 for row k
    pub u2_tested : (u-at k : ℕ) (sent d : List ℕ) (t : Bool) → k < params.kappa_2 → u-at ≡ transcript_at (parameters_of params) 3
        → sent ≡ part X (u-at + 64 * k) 64
        → d ≡ part W (products_at (parameters_of params) + 64 * (params.kappa + params.kappa_1 + params.kappa_1 + k)) 64
        → t ≡ equal sent d → u2_test J X k ≡ cond t fine (failed 29 [])
    u2_tested u-at k sent d t h eu es ed v =
        let l : sent ≡ words ((message (parameters J) X).u₂ k) =
        es
        ∙ sent-words X u-at params.kappa_2 k (u₂-within J X params s u-at eu) (u₂-canonical J X params s u-at eu) h
        ∙ ap (λ a. words (run X a 64 k)) (eu ∙ ap (λ Q. transcript_at Q 3) s.same) in
        require-equal (words ((message (parameters J) X).u₂ k)) (words (of_D J X k)) (failed 29 []) t (v ∙ ap₂ equal l (read_d k d h ed))
