-- What the work of a call leaves in the output.
use Rattle.std.specs.Prelude.{List, ◌++◌, ℕ, drop}
use Rattle.spec_leaves.specs.Answer.{result_of}
use Rattle.spec_protocol.specs.Parameters.{parameters}
use Rattle.spec_protocol.specs.Layout.{span}
use Rattle.spec_protocol.specs.Prover.{Call, made_sections, zeroed}
use Rattle.prover_commit.specs.Refusals.{work, makes}

-- what it makes; "after 13 to 16 the output's needed part is zero too. Words beyond never change."
abbrev pub worked : Call → (J R W output : List ℕ) → List ℕ
worked call J R W output =
    let need = span (made_sections call (parameters J)) in
    result_of (work J R W call) (makes J R W call ++ drop need output) (zeroed need output)
