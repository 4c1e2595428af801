use mathlib.Core.Path.{◌≡◌, sym, ap, ◌∙◌}
use native.Mathlib.Omega.{arith}
use Rattle.math.specs.lists.Part.{part}
use Rattle.spec_leaves.specs.Ring.{RqOps, words, element}
use Rattle.spec_leaves.proofs.RqRing.{rq_ring}
use Rattle.ring_inner_product.specs.Run.{run}
use Rattle.spec_protocol.specs.Parameters.{triangular}
use Rattle.spec_protocol.specs.Formulas.{◌⊗◌, sum}
use Rattle.ring_rq_matrix.specs.Region.{mirrored_row}
use Rattle.ring_rq_matrix.proofs.Place.{triangular-suc, triangle-within, run-from}
use Rattle.ring_rq_matrix.proofs.Word.{stands_for, total-none, total_product-next}
use Rattle.ring_rq_matrix.proofs.Mirror.{weighted_by_rows}
use Rattle.ring_rq_matrix.proofs.sum_of_weighted.Invariants.{row_of}
use Rattle.ring_rq_matrix.proofs.sum_of_weighted.Goals as goal

pub mirrored_row-requires : goal.mirrored_row-requires
mirrored_row-requires c =
    let s = c.args in
    let l = c.loop-i in
    omega (arith, triangle-within l.i s.r (omega arith))

pub loop-i-preserved : goal.loop-i-preserved
loop-i-preserved c =
    let s = c.args in
    let l = c.loop-i in
    let factor = run s.c.now s.c_at 64 in
    let row =
    stands_for _ (mirrored_row l.i (run s.x.now l.row 64) factor) c.mirrored_row.ensures
    ∙ ap (λ f. mirrored_row l.i f factor) (run-from s.x.now s.x_at (triangular l.i) l.row l.invariant.1) in
    let weight = ap element c.load.ensures ∙ ap (λ at. element (part s.c.now at 64)) l.invariant.2 in (
      omega arith,
      omega (arith, triangular-suc l.i),
      omega arith,
      total_product-next _ _ _ _ _ l.i (row_of s.x.now s.x_at s.c.now s.c_at) factor c.add-next.ensures c.mul-weighted.ensures l.invariant.3 row weight,
    )

pub returns : goal.returns
returns c =
    let s = c.args in
    let l = c.loop-i in
    let done : l.i ≡ s.r = omega arith in
    l.invariant.3
    ∙ ap (λ k. words (sum k (λ j. row_of s.x.now s.x_at s.c.now s.c_at j ⊗ run s.c.now s.c_at 64 j))) done
    ∙ ap words (sym (weighted_by_rows RqOps rq_ring s.r (run s.x.now s.x_at 64) (run s.c.now s.c_at 64)))

pub loop-i-init : goal.loop-i-init
loop-i-init c = (omega arith, omega arith, omega arith, total-none _ _ c.zero-total.ensures)

pub overflow_add-row : goal.overflow_add-row
overflow_add-row c = omega (arith, triangle-within c.loop-i.i c.args.r (omega arith))
