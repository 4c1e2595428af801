-- What is found of the length of a lent buffer.
use Rattle.std.specs.Prelude.{ℕ}
use Rattle.std.proofs.Math.Decide.{dec_le}
use Rattle.spec_leaves.specs.Answer.{Answer, refused}
use Rattle.spec_protocol.specs.Checks.{require}

-- "2 output too short", its place "the length needed"
unfoldable pub short_output : (need output : ℕ) → Answer
short_output need output = require (dec_le need output) (refused 2 need)
