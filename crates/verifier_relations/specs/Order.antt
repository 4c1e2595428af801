-- The order of the checks 24 to 27.
use Rattle.std.specs.Prelude.{List, ℕ}
use Rattle.spec_leaves.specs.Answer.{Answer, ◌then◌}
use Rattle.verifier_common.specs.Answers.{az, z_inner, phi, relation}

module _ (J R T : List ℕ) where
  -- 24 and 25, of the challenges
  abbrev pub openings : Answer
  openings = az J R T then z_inner J R T

  -- 26 and 27, of the aggregated constraints
  abbrev pub aggregated : Answer
  aggregated = phi J R T then relation J R T

  -- 24 to 27
  abbrev pub relations : Answer
  relations = openings then aggregated
