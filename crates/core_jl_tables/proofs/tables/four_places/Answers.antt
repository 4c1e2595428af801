use Rattle.std.proofs.Common.{◌≡◌, ◌+◌, length, sym, refl, ap, ◌∙◌, arith}
use Rattle.math.specs.lists.Table.{table}
use Rattle.math.specs.lists.Part.{splice}
use Rattle.math.proofs.lists.Splice.{splice-nil, length-splice}
use Rattle.math.proofs.lists.Fill.{entry-stored}
use Rattle.core_jl_tables.specs.Pairs.{four_place}
use Rattle.core_jl_tables.proofs.tables.four_places.Goals as goal

pub loop-w-init : goal.loop-w-init
unfolding table
loop-w-init c = (omega arith, sym (splice-nil _ _), refl)

pub loop-w-preserved : goal.loop-w-preserved
loop-w-preserved c =
    let l = c.loop-w in
    let s = c.args in
    let stored = entry-stored s.places.now l.places s.to l.w (λ j. four_place s.randomness.now (s.at + j) s.step) c.four_place.result l.invariant.1 c.four_place.ensures in
    (omega arith, stored, ap length stored ∙ length-splice _ _ _)

pub returns : goal.returns
returns c =
    let l = c.loop-w in
    let s = c.args in
    let n : l.w ≡ 64 = omega arith in
    l.invariant.1 ∙ ap (λ k. splice s.places.now s.to (table k (λ j. four_place s.randomness.now (s.at + j) s.step))) n
