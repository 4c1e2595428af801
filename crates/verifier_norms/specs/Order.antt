-- The order of the checks 21 to 23.
use Rattle.std.specs.Prelude.{List, [], ◌∷◌, ℕ}
use Rattle.std.proofs.Math.Decide.{dec_le}
use Rattle.spec_leaves.specs.Answer.{Answer, failed, ◌then◌}
use Rattle.spec_protocol.specs.Checks.{require}
use Rattle.spec_protocol.specs.Parameters.{parameters}
use Rattle.verifier_common.specs.Answers.{projection_norm, constant_terms, norm_sum}

-- 23 of a sum and its limit, both given where it fails
abbrev pub sum_within : (sum limit : ℕ) → Answer
sum_within sum limit = require (dec_le sum limit) (failed 23 (sum ∷ limit ∷ []))

-- 21, 22 and 23
abbrev pub norms : (J R T : List ℕ) → Answer
norms J R T = projection_norm (parameters J) T then constant_terms J R T then norm_sum (parameters J) T
