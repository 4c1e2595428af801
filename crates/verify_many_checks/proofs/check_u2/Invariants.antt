-- `check_u2` meets its contract. The invariant: the first k rows are found equal.
use mathlib.Core.Path.{◌≡◌}
use Prim.Native.Nat.{◌≤◌}
use Rattle.spec_leaves.specs.Answer.{fine}
use Rattle.spec_protocol.specs.Checks.{first}
use Rattle.verify_many_checks.proofs.Stored.{u2_test}
use Rattle.verify_many_checks.proofs.check_u2.Given as goal

abbrev pub invariant-loop-k : goal.invariant-loop-k
invariant-loop-k l = (l.k ≤ l.rows) × (first l.k (u2_test l.job l.transcript) ≡ fine)
