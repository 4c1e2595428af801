use mathlib.Core.Path.{◌≡◌, refl, ap, ◌∙◌}
use native.Mathlib.Omega.{arith}
use Rattle.math.specs.lists.Table.{table}
use Rattle.math.specs.lists.Part.{splice}
use Rattle.ring_inner_product.specs.Run.{run}
use Rattle.spec_protocol.specs.Formulas.{flat}
use Rattle.spec_protocol.proofs.Stored.{stored-none}
use Rattle.ring_rq_matrix.proofs.Place.{rows-within}
use Rattle.ring_rq_matrix.proofs.Word.{words_of-vector}
use Rattle.ring_rq_matrix.proofs.Fill.{length_filled, fill_next}
use Rattle.ring_rq_matrix.proofs.matrix_vector.Invariants.{entry_of}
use Rattle.ring_rq_matrix.proofs.matrix_vector.Goals as goal

pub inner_product-requires : goal.inner_product-requires
inner_product-requires c =
    let s = c.args in
    omega (arith, rows-within c.loop-k.k s.rows s.cols (omega arith))

pub overflow_add-row_at : goal.overflow_add-row_at
overflow_add-row_at c =
    let s = c.args in
    omega (arith, rows-within c.loop-k.k s.rows s.cols (omega arith))

pub loop-k-preserved : goal.loop-k-preserved
loop-k-preserved c =
    let s = c.args in
    let l = c.loop-k in
    let entry = words_of-vector _ s.m.now s.m_at s.cols l.k l.row_at (run s.v.now s.v_at 64) c.inner_product.ensures l.invariant.1 in
    let stored = c.store.ensures in (
      omega arith,
      omega arith,
      omega arith,
      fill_next s.out.now s.out_at _ _ _ l.k l.place (entry_of s.m.now s.m_at s.cols s.v.now s.v_at) l.invariant.3 l.invariant.2 entry stored,
      length_filled _ _ _ _ stored ∙ l.invariant.4,
    )

pub returns : goal.returns
returns c =
    let s = c.args in
    let l = c.loop-k in
    let done : l.k ≡ s.rows = omega arith in
    l.invariant.3 ∙ ap (λ k. splice s.out.now s.out_at (flat (table k (entry_of s.m.now s.m_at s.cols s.v.now s.v_at)))) done

pub loop-k-init : goal.loop-k-init
loop-k-init c = (omega arith, omega arith, omega arith, stored-none _ _ _, refl)
