-- `randomness_at` meets its contract.
use native.Mathlib.Omega.{arith}
use Rattle.verifier_common.proofs.Sent.{reckoned}
use Rattle.verifier_common.proofs.exchange.Exchange.randomness_at.Goals as goal

pub of_randomness-requires : goal.of_randomness-requires
of_randomness-requires c = (reckoned c.args.self.now.sent.posed, omega arith)
