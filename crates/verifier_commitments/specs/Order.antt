-- The order of the checks of the commitments: "Then 14, 15, 28 u1 differs; 16, 29 u2 differs."
use Rattle.std.specs.Prelude.{List, ℕ}
use Rattle.spec_leaves.specs.Answer.{Answer, ◌then◌}
use Rattle.spec_protocol.specs.Parameters.{parameters}
use Rattle.verifier_common.specs.Answers.{t_and_g_bounds, h_bound, u1_differs, u2_differs}

module _ (J T : List ℕ) where
  -- 14, 15 and 28
  abbrev pub first_commitment : Answer
  first_commitment = t_and_g_bounds (parameters J) T then u1_differs J T

  -- 16 and 29
  abbrev pub second_commitment : Answer
  second_commitment = h_bound (parameters J) T then u2_differs J T

  -- 14, 15, 28, 16 and 29
  abbrev pub commitments : Answer
  commitments = first_commitment then second_commitment
