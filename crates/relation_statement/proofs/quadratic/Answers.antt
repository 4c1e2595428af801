use mathlib.Core.Path.{◌≡◌, sym, ap, ◌∙◌}
use native.Mathlib.Omega.{arith}
use Rattle.math.proofs.algebra.Dot.{dot_comm}
use Rattle.spec_leaves.specs.Ring.{RqOps, words}
use Rattle.spec_leaves.proofs.RqRing.{rq_ring}
use Rattle.ring_inner_product.specs.Run.{run}
use Rattle.spec_protocol.specs.Parameters.{triangular}
use Rattle.spec_protocol.specs.Formulas.{sum}
use Rattle.ring_rq_matrix.specs.Region.{vector, gram, mirrored_row}
use Rattle.ring_rq_matrix.proofs.Place.{rows-within, triangular-suc, triangle-within, run-from}
use Rattle.ring_rq_matrix.proofs.Word.{stands_for, total-none, total-next}
use Rattle.ring_rq_matrix.proofs.Mirror.{triangle-by-rows}
use Rattle.relation_statement.proofs.quadratic.Invariants.{row_of}
use Rattle.relation_statement.proofs.quadratic.Goals as goal

pub constraint_row-requires : goal.constraint_row-requires
constraint_row-requires c =
    let s = c.args in
    omega (arith, triangle-within c.loop-i.i s.r (omega arith), rows-within c.loop-i.i s.r s.n (omega arith))

pub loop-i-preserved : goal.loop-i-preserved
loop-i-preserved c =
    let s = c.args in
    let l = c.loop-i in
    let product = gram s.s.now s.s_at s.n l.i in
    let row =
    stands_for _ (mirrored_row l.i (run s.a.now l.row 64) product) c.constraint_row.ensures
    ∙ ap (λ f. mirrored_row l.i f product) (run-from s.a.now s.a_at (triangular l.i) l.row l.invariant.1) in
    (omega arith, omega (arith, triangular-suc l.i), total-next _ _ _ l.i (row_of s.a.now s.a_at s.s.now s.s_at s.n) c.add-next.ensures l.invariant.2 row)

pub returns : goal.returns
returns c =
    let s = c.args in
    let l = c.loop-i in
    let done : l.i ≡ s.r = omega arith in
    l.invariant.2
    ∙ ap (λ k. words (sum k (row_of s.a.now s.a_at s.s.now s.s_at s.n))) done
    ∙ ap words (sym (triangle-by-rows RqOps rq_ring s.r (run s.a.now s.a_at 64) (gram s.s.now s.s_at s.n)
    (λ i j. dot_comm RqOps rq_ring s.n (vector s.s.now s.s_at s.n i) (vector s.s.now s.s_at s.n j))))

pub loop-i-init : goal.loop-i-init
loop-i-init c = (omega arith, omega arith, total-none _ _ c.zero-total.ensures)

pub overflow_add-row : goal.overflow_add-row
overflow_add-row c = omega (arith, triangle-within c.loop-i.i c.args.r (omega arith))
