use mathlib.Core.Path.{◌≡◌, refl, ap, ◌∙◌}
use Prim.Native.Nat.{◌+◌, ◌*◌}
use native.Mathlib.Omega.{arith}
use Rattle.math.specs.lists.Part.{splice}
use Rattle.spec_protocol.specs.Formulas.{flat, triangle}
use Rattle.ring_rq_matrix.proofs.Place.{rows-within, triangle-within}
use Rattle.ring_rq_matrix.proofs.Fill.{length_filled, triangle-none, triangle-next}
use Rattle.ring_rq_matrix.specs.Region.{gram}
use Rattle.core_garbage_polynomials.proofs.g.compute_g.Goals as goal

pub g_row-requires : goal.g_row-requires
g_row-requires c =
    let s = c.args in
    let i = c.loop-i.i in
    omega (arith, triangle-within i s.r (omega arith), rows-within i s.r s.n (omega arith), c.cells.ensures)

pub loop-i-preserved : goal.loop-i-preserved
loop-i-preserved c =
    let s = c.args in
    let l = c.loop-i in
    let cells = gram s.s.now s.s_at s.n in
    let place = ap (λ k. s.out_at + 64 * k) c.cells.ensures in
    let filled = triangle-next s.out.now s.out_at _ _ l.i _ cells l.invariant.0 place c.g_row.ensures in
    (filled, length_filled _ s.out.now s.out_at (flat (triangle (l.i + 1) cells)) filled)

pub returns : goal.returns
returns c =
    let s = c.args in
    let l = c.loop-i in
    let done : l.i ≡ s.r = omega arith in
    l.invariant.0 ∙ ap (λ k. splice s.out.now s.out_at (flat (triangle k (gram s.s.now s.s_at s.n)))) done

pub loop-i-init : goal.loop-i-init
loop-i-init c = (triangle-none _ _ _, refl)

pub overflow_add-place : goal.overflow_add-place
overflow_add-place c = omega (arith, triangle-within c.loop-i.i c.args.r (omega arith), c.cells.ensures)

pub overflow_mul-place : goal.overflow_mul-place
overflow_mul-place c = omega (arith, triangle-within c.loop-i.i c.args.r (omega arith), c.cells.ensures)
