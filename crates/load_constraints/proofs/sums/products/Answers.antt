use mathlib.Core.Path.{◌≡◌, refl, ap, ◌∙◌}
use native.Mathlib.Omega.{arith}
use Rattle.math.specs.lists.Table.{table}
use Rattle.math.specs.lists.Part.{splice}
use Rattle.spec_protocol.specs.Views.{element_at}
use Rattle.spec_protocol.specs.Formulas.{◌⊕◌, flat}
use Rattle.spec_protocol.proofs.Stored.{stored-none}
use Rattle.ring_rq_matrix.proofs.Fill.{length_filled}
use Rattle.load_constraints.specs.Sums.{term}
use Rattle.load_constraints.proofs.Step.{cell-before, element-next}
use Rattle.load_constraints.proofs.sums.products.Goals as goal

pub load-requires-in-loop-k : goal.load-requires-in-loop-k
load-requires-in-loop-k c =
    let s = c.args in
    let l = c.loop-k in
    omega (arith, cell-before s.base s.m s.cell s.count s.to l.k (omega arith) (omega arith) (omega arith))

pub overflow_add-at-in-loop-k : goal.overflow_add-at-in-loop-k
overflow_add-at-in-loop-k c =
    let s = c.args in
    let l = c.loop-k in
    omega (arith, cell-before s.base s.m s.cell s.count s.to l.k (omega arith) (omega arith) (omega arith))

pub loop-k-preserved : goal.loop-k-preserved
loop-k-preserved c =
    let s = c.args in
    let l = c.loop-k in
    let stored = c.store.ensures in (
      omega arith,
      omega arith,
      omega arith,
      element-next s.job.now l.job s.base s.m s.cell s.count s.to l.k l.at (omega arith) (omega arith) (omega arith) l.invariant.1
          s.weight.coeffs l.place _ _ _ _ _ l.invariant.3 l.invariant.2 c.load.ensures
          c.load-in-loop-k.ensures c.mul.ensures c.add-sum.ensures stored,
      length_filled _ _ _ _ stored ∙ l.invariant.4,
    )

pub returns : goal.returns
returns c =
    let s = c.args in
    let l = c.loop-k in
    let done : l.k ≡ s.count = omega arith in
    l.invariant.3 ∙ ap (λ k. splice s.job.now s.to (flat (table k (λ i. element_at s.job.now s.to i ⊕ term s.job.now s.base s.m s.cell s.weight.coeffs i)))) done

pub loop-k-init : goal.loop-k-init
loop-k-init c = (omega arith, omega arith, omega arith, stored-none _ _ _, refl)
