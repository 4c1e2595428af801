-- `transcript_at` meets its contract.
use native.Mathlib.Omega.{arith}
use Rattle.verifier_common.proofs.Sent.{reckoned}
use Rattle.verifier_common.proofs.exchange.Exchange.transcript_at.Goals as goal

pub of_transcript-requires : goal.of_transcript-requires
of_transcript-requires c = (reckoned c.args.self.now.sent.posed, omega arith)
