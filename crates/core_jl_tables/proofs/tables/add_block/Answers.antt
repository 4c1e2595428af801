use Rattle.std.proofs.Common.{◌≡◌, ◌+◌, ◌*◌, ◌/◌, ◌%◌, length, get_or, sym, refl, ap, ◌∙◌, arith}
use Rattle.math.specs.lists.Table.{table}
use Rattle.math.specs.lists.Part.{splice}
use Rattle.math.proofs.lists.Splice.{splice-nil, length-splice}
use Rattle.core_jl_tables.specs.Tables.{terms_added, table_term}
use Rattle.core_jl_tables.proofs.Blocks.{column-stored}
use Rattle.core_jl_tables.proofs.tables.add_block.Goals as goal

pub loop-w-init : goal.loop-w-init
unfolding table
loop-w-init c = (omega arith, sym (splice-nil _ _), refl)

pub add_column-requires : goal.add_column-requires
add_column-requires c =
    let h = c.requires in
    (h.0, h.1, omega arith, omega arith, h.3)

pub loop-w-preserved : goal.loop-w-preserved
loop-w-preserved c =
    let l = c.loop-w in
    let s = c.args in
    let stored = c.add_column.ensures ∙ column-stored s.sums.now l.sums s.tables.now s.places.now s.at l.w l.invariant.1 in
    (omega arith, stored, ap length stored ∙ length-splice _ _ _)

pub returns : goal.returns
returns c =
    let l = c.loop-w in
    let s = c.args in
    let n : 4 * l.w ≡ 256 = omega arith in
    l.invariant.1 ∙ ap (λ k. splice s.sums.now s.at (table k (λ p. terms_added (table_term s.tables.now s.places.now (p / 4) (p % 4)) (get_or s.sums.now (s.at + p) 0) 4))) n
