use mathlib.Core.Path.{◌≡◌, refl, ap, ◌∙◌}
use Prim.Native.Nat.{◌+◌, ◌*◌}
use native.Mathlib.Omega.{arith}
use Rattle.math.specs.lists.Table.{table}
use Rattle.math.specs.lists.Part.{splice}
use Rattle.math.proofs.lists.Table.{length-table}
use Rattle.spec_leaves.specs.Ring.{words}
use Rattle.spec_protocol.specs.Formulas.{flat}
use Rattle.spec_protocol.proofs.Stored.{stored-none}
use Rattle.ring_rq_matrix.proofs.Place.{rows-within}
use Rattle.ring_rq_matrix.proofs.Fill.{length_filled, fill_next, apart_filled}
use Rattle.core_garbage_polynomials.specs.Garbage.{h_of}
use Rattle.core_garbage_polynomials.proofs.Cell.{h-places, h_unchanged}
use Rattle.core_garbage_polynomials.proofs.h.h_row.Goals as goal

pub h_cell-cell-requires : goal.h_cell-cell-requires
h_cell-cell-requires c =
    let s = c.args in
    omega (
      arith,
      rows-within s.i (s.i + 1) s.n (omega arith),
      rows-within c.loop-j.j (s.i + 1) s.n (omega arith),
      c.vector_at-s_i.ensures,
      c.vector_at-phi_i.ensures,
      c.vector_at-s_j.ensures,
      c.vector_at-phi_j.ensures,
    )

pub loop-j-preserved : goal.loop-j-preserved
loop-j-preserved c =
    let s = c.args in
    let l = c.loop-j in
    let row = h_of s.scratch.now s.phi_at s.s.now s.s_at s.n s.i in
    let apart = apart_filled s.phi_at (64 * ((s.i + 1) * s.n)) s.out_at (64 * (s.i + 1)) (table l.j row) c.requires.3 (omega (arith, length-table l.j row)) in
    let now = h-places l.scratch s.s.now s.phi_at s.s_at s.n _ s.i l.j _ _ _ _
    c.h_cell-cell.ensures c.vector_at-phi_i.ensures c.vector_at-phi_j.ensures c.vector_at-s_i.ensures c.vector_at-s_j.ensures in
    let unchanged =
    h_unchanged l.scratch s.scratch.now s.out_at (flat (table l.j row)) s.phi_at (s.i + 1) s.n l.invariant.0 apart
    s.s.now s.s_at s.i l.j (omega arith) (omega arith) in
    let stored = c.store.ensures in
    (fill_next s.scratch.now s.out_at _ _ _ l.j _ row l.invariant.0 refl (now ∙ ap words unchanged) stored, length_filled _ _ _ _ stored ∙ l.invariant.1)

pub returns : goal.returns
returns c =
    let s = c.args in
    let l = c.loop-j in
    let done : l.j ≡ s.i + 1 = omega arith in
    l.invariant.0 ∙ ap (λ k. splice s.scratch.now s.out_at (flat (table k (h_of s.scratch.now s.phi_at s.s.now s.s_at s.n s.i)))) done

pub loop-j-init : goal.loop-j-init
loop-j-init c = (stored-none _ _ _, refl)
