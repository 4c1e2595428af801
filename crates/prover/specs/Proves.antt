-- What a call of the prover answers and leaves. Names that end in ' are buffers at exit.
use Rattle.std.specs.Prelude.{◌≡◌, List, ℕ, length, Result}
use Rattle.spec_leaves.specs.declared.answers.Refusal.{Refusal}
use Rattle.spec_leaves.specs.Answer.{of_result}
use Rattle.spec_protocol.specs.Prover.{prove, prove_output, prove_scratch}
use Rattle.admission_slices.specs.declared.calls.Call.{Call}
use Rattle.admission_slices.specs.Admission.{call_of}

pub record Proves (call : Call) (J R W scratch output scratch' output' : List ℕ) (r : Result Unit Refusal) : Type 0 where
  -- what is answered
  pub answer : of_result r ≡ prove (call_of call) J R W (length scratch) (length output)
  -- the output at exit
  pub output_left : output' ≡ prove_output (call_of call) J R W scratch output
  -- the scratch at exit
  pub scratch_left : scratch' ≡ prove_scratch (call_of call) J R W scratch output
