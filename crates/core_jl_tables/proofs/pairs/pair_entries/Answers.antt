use Rattle.std.proofs.Common.{◌≡◌, ◌+◌, ◌*◌, length, sym, refl, ap, ◌∙◌, arith}
use Rattle.math.specs.lists.Table.{table}
use Rattle.math.specs.lists.Part.{splice}
use Rattle.math.proofs.lists.Splice.{splice-nil, length-splice}
use Rattle.math.proofs.lists.Fill.{entry-stored}
use Rattle.core_jl_tables.specs.Pairs.{pair_sum}
use Rattle.core_jl_tables.proofs.pairs.pair_entries.Goals as goal

pub loop-k-init : goal.loop-k-init
unfolding table
loop-k-init c = (omega arith, sym (splice-nil _ _), refl)

pub loop-k-preserved : goal.loop-k-preserved
loop-k-preserved c =
    let l = c.loop-k in
    let s = c.args in
    let stored = entry-stored s.sums.now l.sums s.to l.k (λ k. pair_sum s.randomness.now (s.at + k * 256) s.x) c.pair_sum.result l.invariant.1 c.pair_sum.ensures in
    (omega arith, stored, ap length stored ∙ length-splice _ _ _)

pub returns : goal.returns
returns c =
    let l = c.loop-k in
    let s = c.args in
    let n : l.k ≡ 4 = omega arith in
    l.invariant.1 ∙ ap (λ n. splice s.sums.now s.to (table n (λ k. pair_sum s.randomness.now (s.at + k * 256) s.x))) n

pub pair_sum-requires : goal.pair_sum-requires
pair_sum-requires c = (omega arith, omega arith)
