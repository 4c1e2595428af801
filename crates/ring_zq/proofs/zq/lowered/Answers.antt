-- `lowered` meets its contract.
use Rattle.std.proofs.Common.{arith, le-ltb, lt-ltb}
use Rattle.spec_leaves.specs.Zq.{Q}
use Rattle.ring_zq.proofs.zq.lowered.Goals as goal

pub returns-then-word-le-Q : goal.returns-then-word-le-Q
returns-then-word-le-Q c = simp (le-ltb Q c.args.word (omega arith))

pub returns-else-word-le-Q : goal.returns-else-word-le-Q
returns-else-word-le-Q c = simp (lt-ltb Q c.args.word (omega arith))
