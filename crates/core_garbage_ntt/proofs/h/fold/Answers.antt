use mathlib.Core.Path.{◌≡◌, refl, ap, ◌∙◌}
use Prim.Native.Nat.{◌+◌}
use native.Mathlib.Omega.{arith}
use Rattle.math.specs.lists.Part.{splice}
use Rattle.spec_protocol.specs.Formulas.{flat, triangle}
use Rattle.ring_rq_matrix.proofs.Place.{triangular-suc, triangle-within}
use Rattle.ring_rq_matrix.proofs.Fill.{length_filled, triangle-none, triangle-next}
use Rattle.core_garbage_ntt.specs.NttLines.{both_ways}
use Rattle.core_garbage_ntt.proofs.Square.{both-row}
use Rattle.core_garbage_ntt.proofs.h.fold.Goals as goal

pub loop-i-preserved : goal.loop-i-preserved
loop-i-preserved c =
    let s = c.args in
    let l = c.loop-i in
    let cells = both_ways s.scratch.now s.square s.r in
    let made = both-row s.scratch.now l.scratch _ s.out_at (flat (triangle l.i cells)) s.square s.r l.i l.place l.invariant.2 (omega arith)
    (omega arith) c.h_row.ensures in
    let filled = triangle-next s.scratch.now s.out_at l.scratch _ l.i l.place cells l.invariant.2 l.invariant.1 made in
    (omega arith, omega (arith, triangular-suc l.i), filled, length_filled _ s.scratch.now s.out_at (flat (triangle (l.i + 1) cells)) filled)

pub returns : goal.returns
returns c =
    let s = c.args in
    let l = c.loop-i in
    let done : l.i ≡ s.r = omega arith in
    l.invariant.2 ∙ ap (λ k. splice s.scratch.now s.out_at (flat (triangle k (both_ways s.scratch.now s.square s.r)))) done

pub loop-i-init : goal.loop-i-init
loop-i-init c = (omega arith, omega arith, triangle-none _ _ _, refl)

pub h_row-requires : goal.h_row-requires
h_row-requires c = let w = triangle-within c.loop-i.i c.args.r (omega arith) in ((omega arith, omega (arith, w), omega arith), omega arith)

pub overflow_add-place : goal.overflow_add-place
overflow_add-place c = omega (arith, triangle-within c.loop-i.i c.args.r (omega arith))
