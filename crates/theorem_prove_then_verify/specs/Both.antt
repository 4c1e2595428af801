-- What the prover's whole call and then the verifier on its transcript answer.
use Rattle.std.specs.Prelude.{List, ℕ}
use Rattle.spec_leaves.specs.Answer.{Answer, ◌then◌}
use Rattle.spec_protocol.specs.Parameters.{parameters}
use Rattle.spec_protocol.specs.Views.{public, witness}
use Rattle.spec_protocol.specs.Prover.{whole, prove}
use Rattle.spec_protocol.specs.Conditions.{conditions}

-- the prover's refusal, or the verdict of the four conditions on job, randomness and witness
abbrev pub both : (J R W : List ℕ) → (scratch output : ℕ) → Answer
both J R W scratch output = prove whole J R W scratch output then conditions (public J R) (witness (parameters J) W)
