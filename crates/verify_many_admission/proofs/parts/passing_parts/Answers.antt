use mathlib.Core.Bool.{false}
use native.Mathlib.Omega.{arith}
use Rattle.math.proofs.lists.Padded.{padded-none, padded-next, padded_done}
use Rattle.verify_many_admission.proofs.parts.passing_parts.Invariants.{of_part}
use Rattle.verify_many_admission.proofs.parts.passing_parts.Goals as goal

pub loop-m-init : goal.loop-m-init
loop-m-init c = (omega arith, padded-none 8 false (of_part c.args.found))

pub loop-m-preserved : goal.loop-m-preserved
loop-m-preserved c =
    let l = c.loop-m in
    (omega arith, padded-next 8 false (of_part c.args.found) l.out l.m c.is_ok.result l.invariant.1 (omega arith) c.is_ok.ensures.value)

pub returns : goal.returns
returns c = let l = c.loop-m in padded_done 8 false (of_part c.args.found) l.out l.m l.invariant.1 (omega arith)
