-- What the exported call that makes a load answers and leaves. Names that end in ' are buffers at exit.
use Rattle.std.specs.Prelude.{◌≡◌, List, ℕ, length}
use Rattle.spec_protocol.specs.Load.{Given, load_refusal}
use Rattle.api_answers.specs.declared.verdicts.LabradorAnswer.{LabradorAnswer}
use Rattle.api_answers.specs.Calls.{labrador_answer}
use Rattle.load.specs.Exit.{job_exit, witness_exit, randomness_exit}

-- `labrador_load`
pub record LoadCall (G : Given) (seed : ℕ) (job witness randomness job' witness' randomness' : List ℕ) (r : LabradorAnswer) : Type 0 where
  -- what is answered
  pub answer : r ≡ labrador_answer (load_refusal G (length job) (length witness) (length randomness))
  -- the three buffers at exit
  pub job_left : job' ≡ job_exit G seed job witness randomness
  pub witness_left : witness' ≡ witness_exit G seed job witness randomness
  pub randomness_left : randomness' ≡ randomness_exit G seed job witness randomness
