use mathlib.Core.Path.{◌≡◌, refl, ap, ◌∙◌}
use Prim.Native.Nat.{◌+◌}
use native.Mathlib.Omega.{arith}
use Rattle.math.specs.lists.Table.{table}
use Rattle.math.specs.lists.Part.{splice}
use Rattle.spec_protocol.specs.Formulas.{flat}
use Rattle.spec_protocol.proofs.Stored.{stored-none}
use Rattle.ring_rq_matrix.proofs.Place.{rows-within}
use Rattle.ring_rq_matrix.proofs.Word.{words_of-vectors}
use Rattle.ring_rq_matrix.proofs.Fill.{length_filled, fill_next}
use Rattle.ring_rq_matrix.specs.Region.{gram}
use Rattle.core_garbage_polynomials.proofs.g.g_row.Goals as goal

pub inner_product-cell-requires : goal.inner_product-cell-requires
inner_product-cell-requires c =
    let s = c.args in
    omega (arith, rows-within s.i (s.i + 1) s.n (omega arith), rows-within c.loop-j.j (s.i + 1) s.n (omega arith), c.vector_at-row.ensures, c.vector_at-column.ensures)

pub loop-j-preserved : goal.loop-j-preserved
loop-j-preserved c =
    let s = c.args in
    let l = c.loop-j in
    let row = c.vector_at-row in
    let column = c.vector_at-column in
    let cell = words_of-vectors _ s.s.now s.s_at s.i row.result s.s.now s.s_at l.j column.result s.n c.inner_product-cell.ensures
    row.ensures column.ensures in
    let stored = c.store.ensures in
    (fill_next s.out.now s.out_at _ _ _ l.j _ (gram s.s.now s.s_at s.n s.i) l.invariant.0 refl cell stored, length_filled _ _ _ _ stored ∙ l.invariant.1)

pub returns : goal.returns
returns c =
    let s = c.args in
    let l = c.loop-j in
    let done : l.j ≡ s.i + 1 = omega arith in
    l.invariant.0 ∙ ap (λ k. splice s.out.now s.out_at (flat (table k (gram s.s.now s.s_at s.n s.i)))) done

pub loop-j-init : goal.loop-j-init
loop-j-init c = (stored-none _ _ _, refl)
