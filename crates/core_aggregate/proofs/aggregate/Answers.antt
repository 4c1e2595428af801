use mathlib.Core.Path.{refl, sym, ◌∙◌, ap, ap₂, subst}
use native.Mathlib.Omega.{arith}
use lib.ListN.{length}
use Rattle.math.proofs.lists.Splice.{length-splice}
use Rattle.spec_leaves.specs.Ring.{words}
use Rattle.spec_protocol.proofs.Stored.{stored-none, stored_next, stored-all}
use Rattle.ring_inner_product.specs.Run.{Within, further}
use Rattle.core_aggregate.specs.Weighed.{mixed}
use Rattle.core_aggregate.proofs.Grid.{rows_run, rows_same, row_ends, mixed-before}
use Rattle.core_aggregate.proofs.aggregate.Goals as goal

pub mix-e-requires : goal.mix-e-requires
mix-e-requires c =
    let s = c.args in
    let h = c.requires in
    let l = c.loop-c in (
      subst (Within s.job.now) (sym c.further-constraint.ensures) (rows_run s.job.now s.constraints s.width l.c h.0 (omega arith) (omega arith)),
      (rw c.further-constraint.ensures h.1),
      (rw c.further-one.ensures h.2),
      subst (Within l.scratch) (sym c.further-one.ensures) (rows_run l.scratch s.aggregated s.width l.c (rows_same _ _ _ _ l.invariant.2 h.3) (omega arith) (omega arith)),
    )

pub loop-c-preserved : goal.loop-c-preserved
loop-c-preserved c =
    let s = c.args in
    let h = c.requires in
    let l = c.loop-c in
    let e = c.mix-e.ensures
    ∙ ap₂ (λ x y. words (mixed s.job.now x s.weights.now s.alpha s.beta l.scratch y)) c.further-constraint.ensures c.further-one.ensures
    ∙ ap words (mixed-before _ _ _ _ _ _ _ (further s.aggregated l.c) s.to _ l.invariant.1
    (λ m i. row_ends s.aggregated s.width s.to l.c m h.3.1 h.4 (omega arith) i)) in
    let w = c.store.ensures ∙ stored_next _ _ _ l.c _ _ l.invariant.1 e in
    (omega arith, w, ap length w ∙ length-splice _ _ _)

pub returns : goal.returns
returns c = stored-all _ _ _ _ _ _ c.loop-c.invariant.1 (omega arith)

pub loop-c-init : goal.loop-c-init
loop-c-init c = (omega arith, stored-none _ _ _, refl)
