use mathlib.Core.Path.{◌≡◌, refl, ap, ◌∙◌}
use Prim.Native.Nat.{◌+◌, ◌*◌}
use native.Mathlib.Omega.{arith}
use Rattle.math.specs.lists.Part.{splice}
use Rattle.spec_protocol.specs.Parameters.{triangular}
use Rattle.spec_protocol.specs.Formulas.{flat, triangle}
use Rattle.spec_protocol.proofs.Flat.{length-triangle}
use Rattle.ring_rq_matrix.proofs.Place.{rows-within, triangle-within, apart_part}
use Rattle.ring_rq_matrix.proofs.Fill.{length_filled, triangle-none, triangle-next, apart_filled}
use Rattle.core_garbage_polynomials.specs.Garbage.{h_of}
use Rattle.core_garbage_polynomials.proofs.Cell.{h-row_unchanged}
use Rattle.core_garbage_polynomials.proofs.h.compute_h.Goals as goal

pub h_row-requires : goal.h_row-requires
h_row-requires c =
    let s = c.args in
    let l = c.loop-i in
    let within = triangle-within l.i s.r (omega arith) in
    let vectors = rows-within l.i s.r s.n (omega arith) in
    let cells = c.cells.ensures in (
      omega arith,
      omega arith,
      omega arith,
      apart_part s.phi_at (64 * (s.r * s.n)) s.out_at (64 * triangular s.r) s.phi_at (64 * ((l.i + 1) * s.n)) (s.out_at + 64 * c.cells.result) (64 * (l.i + 1))
          c.requires.3 (omega arith) (omega arith) (omega arith) (omega arith),
      omega arith,
      omega arith,
    )

pub loop-i-preserved : goal.loop-i-preserved
loop-i-preserved c =
    let s = c.args in
    let l = c.loop-i in
    let cells = h_of s.scratch.now s.phi_at s.s.now s.s_at s.n in
    let within = triangle-within l.i s.r (omega arith) in
    let apart = apart_filled s.phi_at (64 * (s.r * s.n)) s.out_at (64 * triangular s.r) (triangle l.i cells) c.requires.3 (omega (arith, length-triangle l.i cells)) in
    let stored =
    h-row_unchanged l.scratch s.scratch.now s.out_at (flat (triangle l.i cells)) s.phi_at s.r s.n l.invariant.0 apart _ s.s.now s.s_at l.i
    _ (omega arith) c.h_row.ensures in
    let place = ap (λ k. s.out_at + 64 * k) c.cells.ensures in
    let filled = triangle-next s.scratch.now s.out_at _ _ l.i _ cells l.invariant.0 place stored in
    (filled, length_filled _ s.scratch.now s.out_at (flat (triangle (l.i + 1) cells)) filled)

pub returns : goal.returns
returns c =
    let s = c.args in
    let l = c.loop-i in
    let done : l.i ≡ s.r = omega arith in
    l.invariant.0 ∙ ap (λ k. splice s.scratch.now s.out_at (flat (triangle k (h_of s.scratch.now s.phi_at s.s.now s.s_at s.n)))) done

pub loop-i-init : goal.loop-i-init
loop-i-init c = (triangle-none _ _ _, refl)

pub overflow_add-place : goal.overflow_add-place
overflow_add-place c = omega (arith, triangle-within c.loop-i.i c.args.r (omega arith), c.cells.ensures)

pub overflow_mul-place : goal.overflow_mul-place
overflow_mul-place c = omega (arith, triangle-within c.loop-i.i c.args.r (omega arith), c.cells.ensures)
