-- What the calls and answers of this crate stand for, and what holds of a call that is refused nothing before its work.
use Rattle.std.specs.Prelude.{◌≡◌, List, ℕ, ◌≤◌, take}
use Rattle.spec_protocol.specs.Parameters.{parameters}
use Rattle.spec_protocol.specs.Layout.{span, job_sections, randomness_sections, witness_sections, transcript_sections, scratch_need}
use Rattle.spec_protocol.specs.Prover as P
use Rattle.spec_protocol.specs.Laid.{Laid}
use Rattle.relation_env_params.specs.declared.env_params.EnvironmentParameters.{EnvironmentParameters}
use Rattle.relation_env_params.specs.Parameters.{parameters_of}
use Rattle.relation_env_params.specs.SectionOne.{Sound}
use Rattle.admission_slices.specs.declared.calls.Call.{Call}
use Rattle.admission_slices.specs.declared.calls.Call.TheVariants as C
use Rattle.admission_slices.specs.declared.slices.Slice.{Slice}
use Rattle.admission_slices.specs.declared.slices.Slice.TheVariants as S

-- the call of document 01
abbrev pub call_of : Call → P.Call
call_of C.Whole = P.whole
call_of C.Round1 = P.round₁
call_of C.Round2 = P.round₂
call_of C.Round3 = P.round₃
call_of C.Round4 = P.round₄
call_of C.Round5 = P.round₅

-- "3, 6"; "7, 8"; "9, 10"; "11, 12": the number by which a slice's layout is refused
abbrev pub layout_number : Slice → ℕ
layout_number S.Job = 3
layout_number S.Randomness = 7
layout_number S.Transcript = 9
layout_number S.Witness = 11

-- and that by which a word out of range is
abbrev pub word_number : Slice → ℕ
word_number S.Job = 6
word_number S.Randomness = 8
word_number S.Transcript = 10
word_number S.Witness = 12

-- the job and the randomness of a call: the parameters are the job's and within their limits, and the slices have their sections, each word in its range
pub record Handed (handed : ℕ) (J R : List ℕ) (scratch : ℕ) (params : EnvironmentParameters) : Type 0 where
  pub same : parameters_of params ≡ parameters J
  pub sound : Sound J
  pub job : Laid J 31 (job_sections (parameters J))
  pub randomness : Laid R 0 (take handed (randomness_sections (parameters J)))
  pub scratch_fits : scratch_need (parameters J) ≤ scratch

-- what the work of a prover's call needs
pub record Provable (call : P.Call) (J R W : List ℕ) (scratch output : ℕ) (params : EnvironmentParameters) : Type 0 where
  pub handed : Handed call.handed J R scratch params
  pub witness : Laid W 0 (witness_sections (parameters J))
  pub output_fits : span (P.made_sections call (parameters J)) ≤ output

-- what the work of the verifier needs
pub record Verifiable (J R T : List ℕ) (scratch : ℕ) (params : EnvironmentParameters) : Type 0 where
  pub handed : Handed 7 J R scratch params
  pub transcript : Laid T 0 (transcript_sections (parameters J))
