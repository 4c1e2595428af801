use mathlib.Core.Path.{◌≡◌, sym, ap, ap₂, ◌∙◌}
use native.Mathlib.Omega.{arith}
use Rattle.spec_leaves.specs.Ring.{RqOps, words}
use Rattle.spec_leaves.proofs.RqRing.{rq_ring}
use Rattle.ring_inner_product.specs.Run.{run}
use Rattle.spec_protocol.specs.Parameters.{triangular}
use Rattle.spec_protocol.specs.Formulas.{sum}
use Rattle.ring_rq_matrix.specs.Region.{mirrored_row}
use Rattle.ring_rq_matrix.proofs.Place.{triangular-suc, triangle-within, run-from}
use Rattle.ring_rq_matrix.proofs.Word.{stands_for, total-none, total-next}
use Rattle.ring_rq_matrix.proofs.Mirror.{products-by-rows}
use Rattle.ring_rq_matrix.proofs.sum_of_products.Invariants.{row_of}
use Rattle.ring_rq_matrix.proofs.sum_of_products.Goals as goal

pub mirrored_row-requires : goal.mirrored_row-requires
mirrored_row-requires c =
    let s = c.args in
    let l = c.loop-i in
    omega (arith, triangle-within l.i s.r (omega arith))

pub loop-i-preserved : goal.loop-i-preserved
loop-i-preserved c =
    let s = c.args in
    let l = c.loop-i in
    let row =
    stands_for _ (mirrored_row l.i (run s.x.now l.row 64) (run s.y.now l.other 64)) c.mirrored_row.ensures
    ∙ ap₂ (mirrored_row l.i) (run-from s.x.now s.x_at (triangular l.i) l.row l.invariant.1) (run-from s.y.now s.y_at (triangular l.i) l.other l.invariant.2) in (
      omega arith,
      omega (arith, triangular-suc l.i),
      omega (arith, triangular-suc l.i),
      total-next _ _ _ l.i (row_of s.x.now s.x_at s.y.now s.y_at)
          c.add-next.ensures l.invariant.3 row,
    )

pub returns : goal.returns
returns c =
    let s = c.args in
    let l = c.loop-i in
    let done : l.i ≡ s.r = omega arith in
    l.invariant.3
    ∙ ap (λ k. words (sum k (row_of s.x.now s.x_at s.y.now s.y_at))) done
    ∙ ap words (sym (products-by-rows RqOps rq_ring s.r (run s.x.now s.x_at 64) (run s.y.now s.y_at 64)))

pub loop-i-init : goal.loop-i-init
loop-i-init c = (omega arith, omega arith, omega arith, total-none _ _ c.zero-total.ensures)

pub overflow_add-row : goal.overflow_add-row
overflow_add-row c = omega (arith, triangle-within c.loop-i.i c.args.r (omega arith))

pub overflow_add-other : goal.overflow_add-other
overflow_add-other c = omega (arith, triangle-within c.loop-i.i c.args.r (omega arith))
