-- The struct of the call on many transcripts as an answer (document 02, Item 11).
use Rattle.std.specs.Prelude.{◌≡◌, List, ℕ, length, replicate}
use Rattle.spec_leaves.specs.Answer.{Answer, number, place, result_of}
use Rattle.spec_protocol.specs.Many.{many_refusal, many_scratch}
use Rattle.api_answers.specs.declared.verdicts.LabradorVerdict.{LabradorVerdict}
use Rattle.api_answers.specs.Calls.{failed_check}
use Rattle.verify_many.specs.Windows.{verdicts_of}
use Rattle.verify_many.specs.declared.answers.LabradorVerdicts.{LabradorVerdicts}

-- a number and a place, with nothing answered of the transcripts
abbrev pub refused_verdicts : (number place : ℕ) → LabradorVerdicts
refused_verdicts number place = record { number = number; place = place; verdicts = replicate 8 (failed_check 0 0 0 0) }

-- eight verdicts; "a refused job or short scratch […] is the answer to the whole call", with zeros
abbrev pub labrador_verdicts : Answer → List LabradorVerdict → LabradorVerdicts
labrador_verdicts a verdicts = record { number = number a; place = place a; verdicts = result_of a verdicts (replicate 8 (failed_check 0 0 0 0)) }

-- what the call answers
abbrev pub many_verdicts : (J : List ℕ) → (count : ℕ) → (R T : List ℕ) → (scratch : ℕ) → LabradorVerdicts
many_verdicts J count R T scratch = labrador_verdicts (many_refusal J count scratch) (verdicts_of J count R T)

-- `labrador_verify_many`
pub record ManyCall (J : List ℕ) (count : ℕ) (R T scratch scratch' : List ℕ) (r : LabradorVerdicts) : Type 0 where
  -- what is answered
  pub answer : r ≡ many_verdicts J count R T (length scratch)
  -- the scratch at exit
  pub scratch_left : scratch' ≡ many_scratch J count scratch
