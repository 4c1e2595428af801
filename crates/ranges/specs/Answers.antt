-- The struct of the call on ranges as an answer, and what its tests stand for (document 02, Item 14).
use Rattle.std.specs.Prelude.{◌≡◌, List, ℕ, ℤ, length, replicate, Result, Ok, Err}
use Rattle.math.specs.lists.Table.{padded}
use Rattle.spec_leaves.specs.Answer.{Answer, fine, refused, number, place, result_of, of_refusal, ◌then◌}
use Rattle.spec_protocol.specs.Parameters.{Parameters, parameters}
use Rattle.spec_protocol.specs.Ranges.{Answered, unused, AllHold, length_refusal, beyond_refusal, crossed_refusal, pairs_refusal, ranges_refusal}
use Rattle.ranges_vectors.specs.Vectors.{range_norms}
use Rattle.ranges.specs.declared.answers.RangesAnswer.{RangesAnswer}
use Rattle.ranges.specs.declared.answers.RangesError.{RangesError}
use Rattle.ranges.specs.declared.answers.RangesError.TheVariants as E

-- "36 a pair whose low is above its high", "37 a number beyond ±2147483647": the numbers and places of what is refused
abbrev pub of_ranges_error : RangesError → Answer
of_ranges_error (E.Refused r) = of_refusal r
of_ranges_error (E.Crossed p) = refused 36 p
of_ranges_error (E.Beyond p) = refused 37 p

-- what is found of the lows and the highs
abbrev pub of_ranges_checked : {T : Type 0} → Result T RangesError → Answer
of_ranges_checked (Ok value) = fine
of_ranges_checked (Err e) = of_ranges_error e

-- the refusals of the lows and the highs, of which there should be so many
abbrev pub lists_refusal : ℕ → (lows highs : List ℤ) → Answer
lists_refusal count lows highs =
    length_refusal count (length lows)
    then length_refusal count (length highs)
    then beyond_refusal count lows highs
    then crossed_refusal count lows highs

-- a number and a place, with nothing answered of the vectors
abbrev pub refused_ranges : (number place : ℕ) → RangesAnswer
refused_ranges number place = record { number = number; place = place; vectors = replicate 16 (range_norms unused) }

-- a refusal with all sixteen unused, or what is answered of r vectors, the others unused
abbrev pub ranges_answer : Answer → (r : ℕ) → (ℕ → Answered) → RangesAnswer
ranges_answer a r vectors = record {
  number = number a;
  place = place a;
  vectors = result_of a (padded 16 r (range_norms unused) (λ i. range_norms (vectors i))) (replicate 16 (range_norms unused));
}

-- what the call answers: a refusal, or of each vector what holds of its choices
pub record Ranges (P : Parameters) (lows highs : List ℤ) (refusal : Answer) (r : RangesAnswer) : Type 0 where
  pub vectors : ℕ → Answered
  pub hold : refusal ≡ fine → AllHold P lows highs vectors
  pub answer : r ≡ ranges_answer refusal P.r vectors

-- what the call answers with a job
abbrev pub RangesCall : List ℕ → (lows highs : List ℤ) → RangesAnswer → Type 0
RangesCall J lows highs r = Ranges (parameters J) lows highs (ranges_refusal J lows highs) r

-- and with the parameters of a job that is refused nothing
abbrev pub RangesOf : Parameters → (lows highs : List ℤ) → RangesAnswer → Type 0
RangesOf P lows highs r = Ranges P lows highs (pairs_refusal P lows highs) r
