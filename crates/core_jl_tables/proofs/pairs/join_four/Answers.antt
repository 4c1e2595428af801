use Rattle.std.proofs.Common.{◌≡◌, ◌+◌, length, get_or, sym, refl, ap, ◌∙◌, arith}
use Rattle.math.specs.lists.Table.{table}
use Rattle.math.specs.lists.Part.{splice}
use Rattle.math.proofs.lists.Splice.{splice-nil, length-splice}
use Rattle.math.proofs.lists.Fill.{entry-stored}
use Rattle.core_jl_tables.specs.Pairs.{lowered_sum}
use Rattle.core_jl_tables.proofs.pairs.join_four.Goals as goal

pub loop-k-init : goal.loop-k-init
unfolding table
loop-k-init c = (omega arith, sym (splice-nil _ _), refl)

pub loop-k-preserved : goal.loop-k-preserved
loop-k-preserved c =
    let l = c.loop-k in
    let s = c.args in
    let stored = entry-stored s.tables.now l.tables s.at l.k (λ k. lowered_sum (get_or s.pairs.now (s.x + k) 0) (get_or s.pairs.now (s.y + k) 0))
    c.lowered_sum.result l.invariant.1 c.lowered_sum.ensures in
    (omega arith, stored, ap length stored ∙ length-splice _ _ _)

pub returns : goal.returns
returns c =
    let l = c.loop-k in
    let s = c.args in
    let n : l.k ≡ 4 = omega arith in
    l.invariant.1 ∙ ap (λ n. splice s.tables.now s.at (table n (λ k. lowered_sum (get_or s.pairs.now (s.x + k) 0) (get_or s.pairs.now (s.y + k) 0)))) n
