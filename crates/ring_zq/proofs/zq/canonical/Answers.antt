-- `canonical` meets its contract: a word less Q is below Q.
use Rattle.std.proofs.Common.{arith}
use Rattle.ring_zq.proofs.Words.{word_below}
use Rattle.ring_zq.proofs.zq.canonical.Goals as goal

pub returns-else-word-lt-Q : goal.returns-else-word-lt-Q
returns-else-word-lt-Q c = omega (arith, word_below c.args.word (omega arith))
