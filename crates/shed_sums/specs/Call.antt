-- What the call that adds two p answers and leaves.
use Rattle.std.specs.Prelude.{◌≡◌, List, ℕ, length}
use Rattle.api_answers.specs.declared.verdicts.LabradorAnswer.{LabradorAnswer}
use Rattle.api_answers.specs.Calls.{labrador_answer}
use Rattle.spec_sheds.specs.Runs.{add_refusal, add_output}

-- `labrador_add_projections`; output' is the output at exit
pub record AddCall (p q output output' : List ℕ) (r : LabradorAnswer) : Type 0 where
  -- what is answered
  pub answer : r ≡ labrador_answer (add_refusal p q (length output))
  -- the output at exit
  pub output_left : output' ≡ add_output p q output
