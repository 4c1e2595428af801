use Rattle.std.proofs.Common.{◌≡◌, ◌+◌, length, get_or, sym, refl, ap, ◌∙◌, arith}
use Rattle.math.specs.lists.Table.{table}
use Rattle.math.specs.lists.Part.{splice}
use Rattle.math.proofs.lists.Splice.{length-splice}
use Rattle.math.proofs.lists.Fill.{splice-table-same}
use Rattle.math.proofs.lists.Rows.{rows-within}
use Rattle.core_jl_transpose.specs.Omega.{added}
use Rattle.core_jl_transpose.proofs.Columns.{row_added}
use Rattle.core_jl_transpose.proofs.add_rows.Goals.{After-shared_slice_known-in-loop-j-1}
use Rattle.core_jl_transpose.proofs.add_rows.Goals as goal

pub loop-j-init : goal.loop-j-init
unfolding added
loop-j-init c =
    let s = c.args in
    (omega arith, sym (splice-table-same s.out.now s.out_at s.width 0 (omega arith)), refl)

-- row j ends before the rows do
pub overflow_add-pi_at : goal.overflow_add-pi_at
overflow_add-pi_at c =
    let s = c.args in
    omega (arith, rows-within c.loop-j.j 256 s.width (omega arith))

pub add_row-requires : goal.add_row-requires
add_row-requires c =
    let s = c.args in
    (omega (arith, rows-within c.loop-j.j 256 s.width (omega arith)), omega arith)

pub loop-j-preserved : goal.loop-j-preserved
loop-j-preserved c =
    let s = c.args in
    let l = c.loop-j in
    let stored = c.add_row.ensures ∙ row_added s.randomness.now s.pi_at s.omega_at s.width s.out.now l.out s.out_at l.j (omega arith) l.invariant.1 in
    (omega arith, stored, ap length stored ∙ length-splice _ _ _)

pub returns : goal.returns
returns c =
    let s = c.args in
    let l = c.loop-j in
    let n : l.j ≡ 256 = omega arith in
    l.invariant.1 ∙ ap (λ j. splice s.out.now s.out_at (table s.width (λ c. added s.randomness.now s.pi_at s.omega_at s.width (get_or s.out.now (s.out_at + c) 0) c j))) n

pub overflow_mul-j : goal.overflow_mul-j
overflow_mul-j c = omega (arith, rows-within c.loop-j.j 256 c.args.width (omega arith))
