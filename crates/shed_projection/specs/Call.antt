-- What the call that gives the p of a run answers and leaves. Names that end in ' are buffers at exit.
use Rattle.std.specs.Prelude.{◌≡◌, List, ℕ}
use Rattle.api_answers.specs.declared.verdicts.LabradorAnswer.{LabradorAnswer}
use Rattle.api_answers.specs.Calls.{labrador_answer}
use Rattle.spec_sheds.specs.Runs.{run, project_answer, project_output, project_scratch}

-- `labrador_shed_projection`: Π has the run's projection words, S its vectors
pub record PCall (J : List ℕ) (first end : ℕ) (Π S scratch output scratch' output' : List ℕ) (r : LabradorAnswer) : Type 0 where
  -- what is answered
  pub answer : r ≡ labrador_answer (project_answer J (run first end) Π S scratch output)
  -- the output at exit
  pub output_left : output' ≡ project_output J (run first end) Π S scratch output
  -- the scratch at exit
  pub scratch_left : scratch' ≡ project_scratch J (run first end) Π S scratch output
