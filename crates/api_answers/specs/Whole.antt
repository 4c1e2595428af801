-- What the exported calls of the prover and of the verifier answer and leave. Names that end in ' are buffers at exit.
use Rattle.std.specs.Prelude.{◌≡◌, List, ℕ, length}
use Rattle.spec_protocol.specs.Prover.{Call, prove, prove_output, prove_scratch}
use Rattle.spec_protocol.specs.Verifier.{verify, verify_scratch}
use Rattle.api_answers.specs.declared.verdicts.LabradorAnswer.{LabradorAnswer}
use Rattle.api_answers.specs.declared.verdicts.LabradorVerdict.{LabradorVerdict}
use Rattle.api_answers.specs.Calls.{labrador_answer, labrador_verdict}

-- `labrador_prove` of the whole call, `labrador_round_1` to `labrador_round_5` of a round
pub record ProveCall (call : Call) (J R W scratch output scratch' output' : List ℕ) (r : LabradorAnswer) : Type 0 where
  -- what is answered
  pub answer : r ≡ labrador_answer (prove call J R W (length scratch) (length output))
  -- the output at exit
  pub output_left : output' ≡ prove_output call J R W scratch output
  -- the scratch at exit
  pub scratch_left : scratch' ≡ prove_scratch call J R W scratch output

-- `labrador_verify`
pub record VerifyCall (J R T scratch scratch' : List ℕ) (r : LabradorVerdict) : Type 0 where
  -- what is answered
  pub answer : r ≡ labrador_verdict (verify J R T (length scratch))
  -- the scratch at exit
  pub scratch_left : scratch' ≡ verify_scratch J R T scratch
