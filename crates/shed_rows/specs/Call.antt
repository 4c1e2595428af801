-- What the call that gives the rows of t of a run answers and leaves. Names that end in ' are buffers at exit.
use Rattle.std.specs.Prelude.{◌≡◌, List, ℕ, length}
use Rattle.api_answers.specs.declared.verdicts.LabradorAnswer.{LabradorAnswer}
use Rattle.api_answers.specs.Calls.{labrador_answer}
use Rattle.spec_sheds.specs.Runs.{run, commit_rows, rows_output, rows_scratch}

-- `labrador_shed_rows`: S has the run's vectors
pub record RowsCall (J : List ℕ) (first end : ℕ) (S scratch output scratch' output' : List ℕ) (r : LabradorAnswer) : Type 0 where
  -- what is answered
  pub answer : r ≡ labrador_answer (commit_rows J (run first end) S (length scratch) (length output))
  -- the output at exit
  pub output_left : output' ≡ rows_output J (run first end) S scratch output
  -- the scratch at exit
  pub scratch_left : scratch' ≡ rows_scratch J (run first end) S scratch output
