-- `job_at` meets its contract.
use native.Mathlib.Omega.{arith}
use Rattle.verifier_common.proofs.Sent.{reckoned}
use Rattle.verifier_common.proofs.exchange.Exchange.job_at.Goals as goal

pub of_job-requires : goal.of_job-requires
of_job-requires c = (reckoned c.args.self.now.sent.posed, omega arith)
