use Rattle.std.proofs.Common.{◌≡◌, ◌+◌, length, get_or, sym, refl, ap, ◌∙◌, arith}
use Rattle.math.specs.lists.Table.{table}
use Rattle.math.specs.lists.Part.{splice}
use Rattle.math.proofs.lists.Splice.{splice-nil, length-splice}
use Rattle.core_jl_tables.specs.Tables.{terms_added, table_term}
use Rattle.core_jl_tables.proofs.Blocks.{sum-stored}
use Rattle.core_jl_tables.proofs.tables.add_column.Goals as goal

pub loop-k-init : goal.loop-k-init
unfolding table
loop-k-init c = (omega arith, sym (splice-nil _ _), refl)

pub add_terms-requires : goal.add_terms-requires
add_terms-requires c =
    let h = c.requires in
    (h.0, h.1, h.2, omega arith, h.4)

pub loop-k-preserved : goal.loop-k-preserved
loop-k-preserved c =
    let l = c.loop-k in
    let s = c.args in
    let stored = sum-stored s.sums.now l.sums s.tables.now s.places.now s.at s.w l.k c.add_terms.result l.invariant.1 c.add_terms.ensures in
    (omega arith, stored, ap length stored ∙ length-splice _ _ _)

pub returns : goal.returns
returns c =
    let l = c.loop-k in
    let s = c.args in
    let n : l.k ≡ 4 = omega arith in
    l.invariant.1 ∙ ap (λ k. splice s.sums.now s.at (table k (λ k. terms_added (table_term s.tables.now s.places.now s.w k) (get_or s.sums.now (s.at + k) 0) 4))) n
