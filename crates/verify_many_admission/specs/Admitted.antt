-- What the tests of a call on many transcripts find, and what holds where the whole call is refused nothing.
use Rattle.std.specs.Prelude.{◌≡◌, List, ℕ, ◌≤◌, ◌<◌, get_or, Result, Ok, Err}
use Rattle.spec_leaves.specs.declared.answers.Refusal.{Refusal}
use Rattle.spec_leaves.specs.Answer.{Answer, fine, refused, of_refusal, of_result}
use Rattle.spec_protocol.specs.Parameters.{Parameters, parameters}
use Rattle.spec_protocol.specs.Layout.{job_refusal, transcript_refusal}
use Rattle.spec_protocol.specs.Many.{many_need, transcript_part}
use Rattle.relation_env_params.specs.declared.env_params.EnvironmentParameters.{EnvironmentParameters}
use Rattle.relation_env_params.specs.Parameters.{parameters_of}
use Rattle.verify_many_admission.specs.declared.whole.ManyRefusal.{ManyRefusal}
use Rattle.verify_many_admission.specs.declared.whole.ManyRefusal.TheVariants as A

-- "It refuses with 35, at place 0, a number of transcripts outside 1 to 8": the numbers and places of what is found
abbrev pub of_many : {T : Type 0} → Result T ManyRefusal → Answer
of_many (Ok value) = fine
of_many (Err A.Count) = refused 35 0
of_many (Err (A.Refused r)) = of_refusal r

-- a call that is not refused as a whole: its parameters are the job's, and the scratch is long enough
pub record ManyGiven (J : List ℕ) (count scratch : ℕ) (params : EnvironmentParameters) : Type 0 where
  pub fit : job_refusal J ≡ fine
  pub same : parameters_of params ≡ parameters J
  pub few : count ≤ 8
  pub room : many_need (parameters J) count ≤ scratch

-- what is found of transcript m, of so many
abbrev pub found_of : List (Result Unit Refusal) → ℕ → Result Unit Refusal
found_of found m = get_or found m (Ok tt)

-- each transcript is refused by 9 and 10 what it is refused by itself
abbrev pub TranscriptsFound : Parameters → (count : ℕ) → (T : List ℕ) → List (Result Unit Refusal) → Type 0
TranscriptsFound P count T found = (m : ℕ) → m < count → of_result (found_of found m) ≡ transcript_refusal P (transcript_part P count T m)
