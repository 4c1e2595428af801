-- `lack` meets its contract.
use Rattle.std.proofs.Common.{arith, le-ltb, lt-ltb}
use Rattle.spec_leaves.specs.Zq.{Q}
use Rattle.ring_zq.proofs.Words.{word_below}
use Rattle.ring_zq.proofs.zq.lack.Goals as goal

pub returns-then-word-le-Q : goal.returns-then-word-le-Q
returns-then-word-le-Q c = simp (le-ltb Q c.args.word (omega arith))

pub returns-else-word-le-Q : goal.returns-else-word-le-Q
returns-else-word-le-Q c = simp (lt-ltb Q c.args.word (omega arith))

pub overflow_sub-result-else-word-le-Q-2 : goal.overflow_sub-result-else-word-le-Q-2
overflow_sub-result-else-word-le-Q-2 c = omega (arith, word_below c.args.word (omega arith))
