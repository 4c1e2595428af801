-- What one row leaves for one transcript.
use Rattle.std.specs.Prelude.{Bool, cond, List, ℕ}
use Rattle.math.specs.lists.Part.{splice}
use Rattle.spec_leaves.specs.Ring.{words}
use Rattle.spec_protocol.specs.Parameters.{parameters}
use Rattle.spec_protocol.specs.Many.{transcript_part, row_product}

-- the scratch after one row and transcript m: the product in its place where it passes
abbrev pub stored_for : (J T : List ℕ) (count ρ m place : ℕ) → (pass : Bool) → List ℕ → List ℕ
stored_for J T count ρ m place pass S = cond pass (splice S place (words (row_product J (transcript_part (parameters J) count T m) ρ))) S
