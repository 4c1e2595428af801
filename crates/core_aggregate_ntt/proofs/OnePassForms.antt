-- The sums ⟨φ''_k,i, s_i⟩ of one vector: a term of every k more, and what they come to.
use mathlib.Core.Path.{◌≡◌, sym, ap, ap₂, ◌∙◌}
use mathlib.Core.List.{List}
use Prim.Native.Nat.{ℕ, ◌+◌, ◌*◌, ◌/◌, ◌%◌, ◌≤◌, ◌<◌}
use native.Mathlib.Omega.{arith}
use lib.ListN.{length, get_or, replicate, get_or-replicate}
use Rattle.math.specs.lists.Table.{table}
use Rattle.math.specs.lists.Part.{part, splice}
use Rattle.math.specs.lists.Sum.{Σ}
use Rattle.math.proofs.lists.Table.{table_ext}
use Rattle.math.proofs.lists.Sum.{Σ-suc}
use Rattle.math.proofs.lists.Splice.{part-splice-before}
use Rattle.math.proofs.algebra.Form.{pairs_ext}
use Rattle.spec_leaves.specs.Ring.{RqOps, element}
use Rattle.spec_leaves.proofs.Bridge.{element-words}
use Rattle.ring_inner_product.specs.declared.Strided.{Strided}
use Rattle.ring_inner_product.specs.Run.{run, Within, further}
use Rattle.spec_protocol.specs.Parameters.{triangular}
use Rattle.spec_protocol.specs.Views.{element_at, cell}
use Rattle.spec_protocol.specs.Formulas.{◌⊕◌, ◌⊗◌, dot, flat}
use Rattle.core_aggregate.proofs.Formed.{cells_before}
use Rattle.ntt_product.specs.NttForm.{most_products}
use Rattle.ntt_vectors.specs.NttForm.{ntt_form}
use Rattle.ntt_vectors.specs.Sums.{HoldsSums}
use Rattle.ntt_vectors.proofs.SumsLaws.{part-words, inverse-holds, holds-small}
use Rattle.core_aggregate_ntt.specs.Forms.{run_formed, FormsSmall, total}
use Rattle.core_aggregate_ntt.proofs.FormLaws.{form_at}
use Rattle.core_aggregate_ntt.specs.Pass.{with_line, with_lines, formed_with}

-- a run within any slice of the same length
pub run-same : (words others : List ℕ) (x : Strided) → length others ≡ length words → Within words x → Within others x
run-same words others x e r = record { within = λ m l. omega (arith, r.within m l); few = r.few; near = r.near; first = r.first }

module _ (S : List ℕ) (y : Strided) (W : List ℕ) (s-at : ℕ) where
  -- the sums of k are those of m products of φ''_k's elements and the witness's
  abbrev pub Lines : List ℕ → ℕ → Type 0
  Lines forms m = (k : ℕ) → k < y.count → HoldsSums forms (192 * k) m (λ o. part S (y.at + y.step * k + 64 * o) 64) (λ o. part W (s-at + 64 * o) 64)

  pub lines_none : y.count ≤ 32 → Lines (replicate 6144 0) 0
  unfolding Σ
  lines_none few k l o b = let z : ℕ = 0 in get_or-replicate 6144 (192 * k + o) z z (omega arith)

  -- one product more
  pub lines_next : (S' forms next : List ℕ) (to : ℕ) (new : List ℕ) (m : ℕ) → S' ≡ splice S to new → ((k : ℕ) → k < y.count → y.at + 64 * m + y.step * k + 64 ≤ to) → 192 * y.count ≤ length forms
      → next ≡ splice forms 0 (run_formed forms S' (further y m) (ntt_form (part W (s-at + 64 * m) 64))) → Lines forms m → Lines next (m + 1)
  lines_next S' forms next to new m e before room made lines k l o b =
      let there : y.at + 64 * m + y.step * k ≡ y.at + y.step * k + 64 * m = omega arith in
      form_at forms S' (y.at + 64 * m) y.step (ntt_form (part W (s-at + 64 * m) 64)) next y.count made room k o l b
      ∙ ap₂ (λ x e. x + get_or (ntt_form e) o 0 * get_or (ntt_form (part W (s-at + 64 * m) 64)) o 0) (lines k l o b)
      (ap (λ s. part s (y.at + 64 * m + y.step * k) 64) e ∙ part-splice-before 0 S to new (y.at + 64 * m + y.step * k) 64 (before k l) ∙ ap (λ p. part S p 64) there)
      ∙ sym (Σ-suc m (λ i. get_or (ntt_form (part S (y.at + y.step * k + 64 * i) 64)) o 0 * get_or (ntt_form (part W (s-at + 64 * i) 64)) o 0))

  module _ (words : (j : ℕ) → get_or S j 0 ≤ 4294967295) (witness : (j : ℕ) → get_or W j 0 ≤ 4294967295) where
    -- for which there is room
    pub lines-small : (forms : List ℕ) (m : ℕ) → m < most_products → 192 * y.count ≤ length forms → Lines forms m → FormsSmall forms y.count
    lines-small forms m few room lines = (
      room,
      (λ j l.
          let there : j ≡ 192 * (j / 192) + j % 192 = omega arith in
          let bound = holds-small forms (192 * (j / 192)) m (λ o. part S (y.at + y.step * (j / 192) + 64 * o) 64) (λ o. part W (s-at + 64 * o) 64) (omega arith) (lines (j / 192) (omega arith))
          (λ o. part-words S words (y.at + y.step * (j / 192) + 64 * o)) (λ o. part-words W witness (s-at + 64 * o)) (j % 192) (omega arith) in
          omega (arith, ap (λ i. get_or forms i 0) there, bound)),
    )

    -- the totals with the inner products added
    pub lines-total : (T T' forms : List ℕ) (n : ℕ) → n ≤ most_products → 192 * y.count ≤ length forms → Lines forms n → T' ≡ splice T 0 (flat (table y.count (total T forms)))
        → T' ≡ with_lines T S y W s-at n
    lines-total T T' forms n few room lines e =
        e
        ∙ ap (λ cells. splice T 0 (flat cells)) (table_ext y.count (total T forms) (with_line T S y W s-at n) (λ k l.
        ap (λ x. element_at T 0 k ⊕ x)
        (ap element (inverse-holds forms (192 * k) n (λ o. part S (y.at + y.step * k + 64 * o) 64) (λ o. part W (s-at + 64 * o) 64) (omega arith) (lines k l) few
        (λ o. part-words S words (y.at + y.step * k + 64 * o)) (λ o. part-words W witness (s-at + 64 * o)))
        ∙ element-words (dot n (run S (y.at + y.step * k) 64) (run W s-at 64)))))

-- triangles before a store
pub formed_with-before : (l after : List ℕ) (a g r : ℕ) (T : List ℕ) (k to : ℕ) (new : List ℕ) → after ≡ splice l to new → a + 64 * (k * triangular r) + 64 * triangular r ≤ to
    → g + 64 * triangular r ≤ to
    → formed_with after a g r T k ≡ formed_with l a g r T k
formed_with-before l after a g r T k to new e ha hg =
    ap (λ x. formed_with x a g r T k) e
    ∙ ap (λ x. x ⊕ element_at T 0 k)
    (pairs_ext RqOps r (λ i j. element_at (splice l to new) (a + 64 * (k * triangular r)) (cell i j) ⊗ element_at (splice l to new) g (cell i j))
    (λ i j. element_at l (a + 64 * (k * triangular r)) (cell i j) ⊗ element_at l g (cell i j))
    (λ i j p q. ap₂ ◌⊗◌ (cells_before l (a + 64 * (k * triangular r)) r to new ha i j p q) (cells_before l g r to new hg i j p q)))
