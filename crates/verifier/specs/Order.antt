-- The order of all checks.
use Rattle.std.specs.Prelude.{List, ℕ}
use Rattle.spec_leaves.specs.Answer.{Answer, ◌then◌}
use Rattle.spec_protocol.specs.Parameters.{parameters}
use Rattle.spec_protocol.specs.Views.{public, message}
use Rattle.spec_protocol.specs.Verifier.{checks}
use Rattle.verifier_relations.specs.Order.{relations}
use Rattle.verifier_commitments.specs.Order.{commitments}

module _ (J R T : List ℕ) where
  -- the checks from 24 on
  abbrev pub rest : Answer
  rest = relations J R T then commitments J T

  -- all checks, in order
  abbrev pub all_checks : Answer
  all_checks = checks (public J R) (message (parameters J) T)
