use mathlib.Core.Path.{refl, ◌∙◌}
use native.Mathlib.Omega.{arith}
use Rattle.spec_protocol.proofs.Stored.{stored-none, stored-all}
use Rattle.ring_rq_matrix.proofs.Fill.{length_filled}
use Rattle.load_constraints.proofs.NttProducts.{cells_before, cells_run, line_next}
use Rattle.load_constraints.proofs.products.add_ntt.Goals as goal

pub loop-k-init : goal.loop-k-init
loop-k-init c = (omega arith, omega arith, stored-none _ _ _, refl)

pub line-requires : goal.line-requires
line-requires c =
    let s = c.args in
    let l = c.loop-k in
    let run = cells_run s.job.now l.job s.base s.m s.cell s.n s.count s.to l.k l.at
    c.requires.0 c.requires.1 c.requires.3 (omega arith) l.invariant.0 l.invariant.3 (omega arith) in
    (run, c.requires.2, c.requires.3)

pub overflow_add-at-in-loop-k : goal.overflow_add-at-in-loop-k
overflow_add-at-in-loop-k c =
    let s = c.args in
    let l = c.loop-k in
    omega (arith, c.requires.0, cells_before s.base s.m s.cell s.n s.count s.to l.k c.requires.0.before c.requires.1 (omega arith))

pub loop-k-preserved : goal.loop-k-preserved
loop-k-preserved c =
    let s = c.args in
    let l = c.loop-k in
    let read = c.load.ensures in
    let stored = c.store.ensures in (
      omega arith,
      omega arith,
      line_next s.job.now l.job s.base s.m s.cell s.n s.count s.to l.k l.at s.transformed.now l.place _ _ _ _
          c.requires.0 c.requires.1 (omega arith) l.invariant.0 l.invariant.2 l.invariant.1
          read c.line.ensures c.add-sum.ensures stored,
      length_filled _ _ _ _ stored ∙ l.invariant.3,
    )

pub returns : goal.returns
returns c = stored-all _ _ _ _ _ _ c.loop-k.invariant.2 (omega arith)

pub overflow_mul-at : goal.overflow_mul-at
overflow_mul-at c = omega (arith, c.requires.0)

pub overflow_add-at : goal.overflow_add-at
overflow_add-at c = omega (arith, c.requires.0)

pub load-requires : goal.load-requires
load-requires c = omega (arith, c.requires.0)

pub store-requires : goal.store-requires
store-requires c = omega (arith, c.requires.0)

pub overflow_mul-at-in-loop-k : goal.overflow_mul-at-in-loop-k
overflow_mul-at-in-loop-k c = omega (arith, c.requires.0)
