use mathlib.Core.Path.{◌≡◌, refl, sym, ◌∙◌, ap}
use Prim.Native.Nat.{◌+◌, ◌%◌}
use native.Mathlib.Omega.{arith}
use lib.ListN.{get_or, set, length-set}
use Rattle.math.specs.lists.Table.{table}
use Rattle.math.specs.lists.Part.{splice}
use Rattle.math.proofs.lists.Splice.{splice-nil}
use Rattle.math.proofs.lists.Fill.{splice-table-next}
use Rattle.spec_leaves.specs.Zq.{Q}
use Rattle.core_jl.proofs.rows.store_reduced.Goals as goal

pub loop-j-init : goal.loop-j-init
unfolding table
loop-j-init c = (omega arith, sym (splice-nil _ _), refl)

pub loop-j-preserved : goal.loop-j-preserved
loop-j-preserved c =
    let s = c.args in
    let l = c.loop-j in (
      omega arith,
      ap (λ w. set w (s.out_at + l.j) (get_or s.sums.now l.j 0 % Q)) l.invariant.1 ∙ splice-table-next s.out.now s.out_at l.j (λ j. get_or s.sums.now j 0 % Q) _ refl,
      simp length-set l.invariant.2,
    )

pub returns : goal.returns
returns c =
    let s = c.args in
    let n : c.loop-j.j ≡ 256 = omega arith in
    c.loop-j.invariant.1 ∙ ap (λ k. splice s.out.now s.out_at (table k (λ j. get_or s.sums.now j 0 % Q))) n

pub shape_of-out : goal.shape_of-out
shape_of-out c = c.loop-j.invariant.2
