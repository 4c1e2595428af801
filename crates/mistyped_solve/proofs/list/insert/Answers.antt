use native.Mathlib.Omega.{arith}
use Rattle.mistyped_solve.specs.Insert.{entry_of}
use Rattle.mistyped_solve.proofs.Words.{inserting_start, inserting_next, inserting_end}
use Rattle.mistyped_solve.proofs.list.insert.Goals as goal

pub loop-j-preserved : goal.loop-j-preserved
loop-j-preserved c =
    let r = c.in_order in
    inserting_next c.loop-j.invariant (entry_of r.result.0) (entry_of r.result.1) (omega arith) r.ensures.first r.ensures.later

pub returns : goal.returns
returns c = inserting_end c.loop-j.invariant c.args.count (omega (arith, c.loop-j.invariant.few, c.loop-j-test.false)) (omega (arith, c.loop-j.invariant.few, c.loop-j-test.false))

pub loop-j-init : goal.loop-j-init
loop-j-init c = inserting_start
