use mathlib.Core.Path.{refl, ◌∙◌, sym, ap}
use Prim.Native.Nat.{◌+◌, ◌*◌, ◌≤◌}
use native.Mathlib.Nat.{zero-add}
use native.Mathlib.Omega.{arith}
use lib.ListN.{length}
use Rattle.math.specs.lists.Part.{part}
use Rattle.math.proofs.lists.Splice.{length-splice}
use Rattle.spec_leaves.specs.Ring.{words, element}
use Rattle.spec_protocol.specs.Parameters.{triangular}
use Rattle.spec_protocol.specs.Views.{element_at, cell}
use Rattle.spec_protocol.specs.Formulas.{◌⊗◌, pairs}
use Rattle.spec_protocol.proofs.Stored.{stored-none, stored_next, stored-all}
use Rattle.ring_rq_matrix.proofs.Word.{stands_for, words_of-sum}
use Rattle.core_aggregate.proofs.Rows.{row_within, row_next}
use Rattle.core_aggregate_ntt.proofs.OnePassForms.{formed_with-before}
use Rattle.core_aggregate_ntt.proofs.one_pass.store_forms.Goals.{After-slice_known-in-loop-k-1}
use Rattle.core_aggregate_ntt.proofs.one_pass.store_forms.Goals as goal

-- where a'' of the turn's k ends
end : (c : After-slice_known-in-loop-k-1)
    → c.args.a_at + 64
    * (c.loop-k.k * triangular
    c.args.r) + 64 * triangular
    c.args.r
    ≤ c.args.to
end c =
    let s = c.args in
    let l = c.loop-k in
    row_within s.a_at l.k s.count (triangular s.r) s.to (omega arith) c.requires.0

pub sum_of_products-square-requires : goal.sum_of_products-square-requires
sum_of_products-square-requires c =
    let s = c.args in
    let l = c.loop-k in
    (omega (arith, row_within s.a_at l.k s.count (triangular s.r) s.to (omega arith) c.requires.0), omega arith, c.requires.4)

pub loop-k-preserved : goal.loop-k-preserved
loop-k-preserved c =
    let s = c.args in
    let l = c.loop-k in
    let T = c.cells-cells.ensures in
    let square = pairs s.r (λ i j. element_at l.scratch (s.a_at + 64 * (l.k * triangular s.r)) (cell i j) ⊗ element_at l.scratch s.g_at (cell i j)) in
    let made = c.sum_of_products-square.ensures
    ∙ ap (λ a. words (pairs s.r (λ i j. element_at l.scratch a (cell i j) ⊗ element_at l.scratch s.g_at (cell i j)))) l.invariant.1 in
    let e = words_of-sum _ _ _ square (element_at s.totals.now 0 l.k) c.add-sum.ensures (stands_for _ square made)
    (ap element (c.load.ensures ∙ ap (λ p. part s.totals.now p 64) (sym (zero-add (64 * l.k)))))
    ∙ ap words (formed_with-before s.scratch.now l.scratch s.a_at s.g_at s.r s.totals.now l.k s.to _ l.invariant.2 (end (goal.at.loop-k-preserved c).After-slice_known-in-loop-k-1) c.requires.1) in
    let w = c.store.ensures ∙ stored_next _ _ _ l.k _ _ l.invariant.2 e in
    (omega arith, ap (λ t. l.a + 64 * t) T ∙ row_next s.a_at l.k (triangular s.r) l.a l.invariant.1, w, ap length w ∙ length-splice _ _ _)

pub loop-k-init : goal.loop-k-init
loop-k-init c = (omega arith, omega arith, stored-none _ _ _, refl)

pub overflow_mul-a : goal.overflow_mul-a
overflow_mul-a c = omega (arith, end (goal.at.overflow_mul-a c).After-slice_known-in-loop-k-1)

pub overflow_add-a : goal.overflow_add-a
overflow_add-a c = omega (arith, end (goal.at.overflow_add-a c).After-slice_known-in-loop-k-1)

pub returns : goal.returns
returns c = stored-all _ _ _ _ _ _ c.loop-k.invariant.2 (omega arith)
