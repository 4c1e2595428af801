-- `work` meets its contract.
use mathlib.Core.Path.{ap}
use Prim.Native.Nat.{◌*◌}
use native.Mathlib.Omega.{arith}
use lib.ListN.{length, replicate}
use Rattle.math.proofs.lists.Splice.{length-splice}
use Rattle.verifier.proofs.Whole.{sent_of}
use Rattle.mistyped.proofs.Judged.{worked}
use Rattle.mistyped.proofs.call.work.Goals as goal

pub judge-requires : goal.judge-requires
judge-requires c =
    let e = c.clear.ensures in record {
      sent = (sent_of _ _ _ _ _ c.requires.0, omega (arith, c.requires.1, ap length e, length-splice c.args.list.now 0 (replicate (2 * c.args.params.constraint_l) 0)));
      verdict_value = c.work_and_clear-judged.ensures.result_value;
    }

pub returns : goal.returns
returns c =
    let v = c.work_and_clear-judged.ensures in record {
      worked = worked c.args.job.now c.args.randomness.now c.args.transcript.now c.args.list.now _ _ (2 * c.args.params.constraint_l) c.judge.result
          (ap (λ P. 2 * P.l) c.requires.0.handed.same) c.requires.1 c.clear.ensures
          c.judge.ensures;
      scratch_after = v.scratch_after;
    }
