use Rattle.std.proofs.Common.{◌+◌, ◌*◌, length, get_or, refl, ap, ◌∙◌, ap₂, arith}
use Rattle.math.specs.lists.Table.{table}
use Rattle.math.proofs.lists.Splice.{length-splice}
use Rattle.spec_leaves.specs.Rq.{rconj, radd}
use Rattle.spec_protocol.proofs.Stored.{stored-none, stored_next, stored-all}
use Rattle.core_jl_tables.specs.Pairs.{biased}
use Rattle.core_jl_tables.specs.Fours.{summed_element}
use Rattle.core_jl_transpose.proofs.Columns.{conjugated}
use Rattle.core_jl_tables.proofs.fours.store_part.Goals as goal

pub loop-m-preserved : goal.loop-m-preserved
loop-m-preserved c =
    let s = c.args in
    let l = c.loop-m in
    let coeffs = c.conjugate_automorphism.ensures
    ∙ ap rconj (c.add-reduced.ensures ∙ ap₂ radd c.column_element.ensures c.zero.ensures)
    ∙ conjugated (table 64 (λ w. biased (get_or s.sums.now (256 * l.m + s.k + 4 * w) 0))) in
    let stored = c.store.ensures ∙ stored_next s.out.now l.out s.at l.m (summed_element s.sums.now s.k) _ l.invariant.1 coeffs in
    (omega arith, stored, ap length stored ∙ length-splice _ _ _)

pub loop-m-init : goal.loop-m-init
loop-m-init c = (omega arith, stored-none _ _ _, refl)

pub returns : goal.returns
returns c = stored-all _ _ _ _ _ _ c.loop-m.invariant.1 (omega arith)
