-- `check_az` meets its contract. The invariant: the first k rows are found equal.
use mathlib.Core.Path.{◌≡◌}
use Prim.Native.Nat.{◌-◌, ◌≤◌}
use Rattle.spec_leaves.specs.Answer.{fine}
use Rattle.spec_protocol.specs.Checks.{first}
use Rattle.verifier_relations.specs.Weighed.{challenges_in}
use Rattle.verifier_relations.proofs.Sides.{az_test}
use Rattle.verifier_relations.proofs.relations.check_az.Given as goal

abbrev pub invariant-loop-k : goal.invariant-loop-k
invariant-loop-k l = (l.k ≤ l.kappa) × (first l.k (az_test l.job l.transcript (challenges_in l.scratch l.regions)) ≡ fine)
