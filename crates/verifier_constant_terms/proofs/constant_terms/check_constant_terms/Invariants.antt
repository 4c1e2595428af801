-- `check_constant-terms` meets its contract. The invariant: the first k rows pass the test.
use mathlib.Core.Path.{◌≡◌}
use Prim.Native.Nat.{◌-◌, ◌≤◌}
use Rattle.spec_leaves.specs.Answer.{fine}
use Rattle.spec_protocol.specs.Checks.{first}
use Rattle.verifier_constant_terms.proofs.Terms.{test, Terms}
use Rattle.verifier_constant_terms.proofs.constant_terms.check_constant_terms.Given as goal

abbrev pub invariant-loop-k : goal.invariant-loop-k
invariant-loop-k l =
    (l.k ≤ l.exchange.params.const_agg_length) × (first l.k (test l.exchange.job.now l.exchange.randomness.now l.exchange.transcript.now) ≡ fine) × Terms l.exchange.job.now
    l.exchange.randomness.now l.exchange.transcript.now l.exchange.params.const_agg_length l.l l.b0 l.psi l.omega
    l.projection l.at
