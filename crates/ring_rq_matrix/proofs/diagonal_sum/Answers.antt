use mathlib.Core.Path.{◌≡◌, sym, ap, ◌∙◌}
use native.Mathlib.Omega.{arith}
use Rattle.math.specs.lists.Part.{part}
use Rattle.spec_leaves.specs.Ring.{RqOps, words, element}
use Rattle.spec_leaves.proofs.RqRing.{rq_ring}
use Rattle.ring_inner_product.specs.Run.{run}
use Rattle.spec_protocol.specs.Formulas.{sum}
use Rattle.ring_rq_matrix.proofs.Place.{triangular-suc, triangle-within}
use Rattle.ring_rq_matrix.proofs.Word.{total-none, total-next}
use Rattle.ring_rq_matrix.proofs.Mirror.{diagonal_by_rows}
use Rattle.ring_rq_matrix.proofs.diagonal_sum.Invariants.{cell_of}
use Rattle.ring_rq_matrix.proofs.diagonal_sum.Goals as goal

pub loop-i-preserved : goal.loop-i-preserved
loop-i-preserved c =
    let s = c.args in
    let l = c.loop-i in
    let cell = ap element c.load.ensures ∙ ap (λ at. element (part s.x.now at 64)) l.invariant.1 in
    (omega arith, omega (arith, triangular-suc l.i), total-next _ _ _ l.i (cell_of s.x.now s.x_at) c.add-next.ensures l.invariant.2 cell)

pub returns : goal.returns
returns c =
    let s = c.args in
    let l = c.loop-i in
    let done : l.i ≡ s.r = omega arith in
    l.invariant.2
    ∙ ap (λ k. words (sum k (cell_of s.x.now s.x_at))) done
    ∙ ap words (sym (diagonal_by_rows RqOps rq_ring s.r (run s.x.now s.x_at 64)))

pub loop-i-init : goal.loop-i-init
loop-i-init c = (omega arith, omega arith, total-none _ _ c.zero-total.ensures)

pub load-requires : goal.load-requires
load-requires c = omega (arith, triangle-within c.loop-i.i c.args.r (omega arith))

pub overflow_add-place-in-loop-i : goal.overflow_add-place-in-loop-i
overflow_add-place-in-loop-i c = omega (arith, triangle-within c.loop-i.i c.args.r (omega arith))
