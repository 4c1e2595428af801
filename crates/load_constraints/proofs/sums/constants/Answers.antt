use mathlib.Core.Path.{◌≡◌, refl, sym, ap, ◌∙◌}
use Prim.Native.Nat.{◌+◌, ◌*◌}
use native.Mathlib.Omega.{arith}
use lib.ListN.{get_or, length-set}
use Rattle.math.specs.lists.Table.{table}
use Rattle.math.specs.lists.Part.{splice}
use Rattle.math.proofs.lists.Splice.{splice-nil}
use Rattle.spec_leaves.specs.Zq.{zadd}
use Rattle.load_constraints.specs.Sums.{dot_at}
use Rattle.load_constraints.proofs.Step.{cell-before, number-next}
use Rattle.load_constraints.proofs.sums.constants.Goals as goal

pub loop-x-init : goal.loop-x-init
unfolding table
loop-x-init c = (omega arith, omega arith, sym (splice-nil _ _), refl)

pub dot-product-requires : goal.dot-product-requires
dot-product-requires c =
    let s = c.args in
    let l = c.loop-x in
    omega (arith, cell-before s.base s.m s.cell s.count s.to l.x (omega arith) (omega arith) (omega arith))

pub overflow_add-at-in-loop-x : goal.overflow_add-at-in-loop-x
overflow_add-at-in-loop-x c =
    let s = c.args in
    let l = c.loop-x in
    omega (arith, cell-before s.base s.m s.cell s.count s.to l.x (omega arith) (omega arith) (omega arith))

pub loop-x-preserved : goal.loop-x-preserved
loop-x-preserved c =
    let s = c.args in
    let l = c.loop-x in (
      omega arith,
      omega arith,
      number-next s.job.now l.job s.base s.m s.cell s.count s.to l.x l.at (omega arith) (omega arith) (omega arith) l.invariant.1 s.coeffs _ l.invariant.2
          (c.add.ensures ∙ ap (zadd (get_or l.job (s.to + l.x) 0)) c.dot-product.ensures),
      simp length-set l.invariant.3,
    )

pub returns : goal.returns
returns c =
    let s = c.args in
    let l = c.loop-x in
    let done : l.x ≡ s.count = omega arith in
    l.invariant.2 ∙ ap (λ k. splice s.job.now s.to (table k (λ i. zadd (get_or s.job.now (s.to + i) 0) (dot_at s.coeffs s.job.now (s.base + 64 * (i * s.m + s.cell)))))) done
