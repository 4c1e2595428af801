-- The calls on a run of witness vectors and the adding of two p: answer, output and scratch for any slices (document 02, Item 10).
use Rattle.std.specs.Prelude.{List, [], ◌∷◌, ◌++◌, ℕ, ◌+◌, ◌-◌, ◌*◌, ◌%◌, length, get_or, drop}
use Rattle.std.proofs.Math.Decide.{dec_le, dec_lt}
use Rattle.math.specs.lists.Table.{table}
use Rattle.math.specs.lists.Sum.{Σ}
use Rattle.spec_leaves.specs.Zq.{Q, zadd}
use Rattle.spec_leaves.specs.Answer.{Answer, refused, result_of, ◌then◌}
use Rattle.spec_protocol.specs.Checks.{require, first}
use Rattle.spec_protocol.specs.Parameters.{Parameters, parameters}
use Rattle.spec_protocol.specs.Layout.{Section, canonical, span, sections, layout, ranged, job_refusal, scratch_refusal, output_refusal, scratch_need}
use Rattle.spec_protocol.specs.Views.{public, witness}
use Rattle.spec_protocol.specs.Formulas as F
use Rattle.spec_protocol.specs.Formulas.{flat, norm_of, rows}
use Rattle.spec_protocol.specs.Prover.{zeroed}

-- "a run of witness vectors, from index first up to but not including end"
pub record Run : Type 0 where
  pub first : ℕ
  pub end : ℕ

abbrev pub run : (first end : ℕ) → Run
run first end = record { first = first; end = end }

-- the number of its vectors
abbrev pub size : Run → ℕ
size x = x.end - x.first

-- "A run's projection words, its vectors, each p and a run's rows of t are one section each, after its count"
abbrev pub projection_section : Parameters → Run → List Section
projection_section P x = canonical (16384 * P.n * size x) ∷ []

abbrev pub vectors_section : Parameters → Run → List Section
vectors_section P x = canonical (64 * (size x * P.n)) ∷ []

abbrev pub p_section : List Section
p_section = canonical 256 ∷ []

abbrev pub rows_section : Parameters → Run → List Section
rows_section P x = canonical (64 * (size x * P.κ)) ∷ []

-- "34 a run whose end is at or below its first index or past r (place is that first index)"
unfoldable pub run_refusal : Parameters → Run → Answer
run_refusal P x = require (dec_lt x.first x.end) (refused 34 x.first) then require (dec_le x.end P.r) (refused 34 x.first)

-- "7 and 8 on the run's projection words where it takes them"
unfoldable pub projection_refusal : Parameters → Run → List ℕ → Answer
projection_refusal P x Π = let ss = projection_section P x in layout 7 Π 0 ss then ranged 8 Π 0 ss

-- "11 and 12 on its vectors"
unfoldable pub vectors_refusal : Parameters → Run → List ℕ → Answer
vectors_refusal P x S = let ss = vectors_section P x in layout 11 S 0 ss then ranged 12 S 0 ss

-- "11 and 12 on its vectors, 1, 2": of the section that the call makes
unfoldable pub lent_refusal : Parameters → Run → List ℕ → (scratch : ℕ) → List Section → (output : ℕ) → Answer
lent_refusal P x S scratch made output = vectors_refusal P x S then scratch_refusal P scratch then output_refusal made output

-- "after the job's refusals; then come 7 and 8 […], 11 and 12 […], 1, 2": the call that gives a run's p. Π has the run's projection words, S its vectors
unfoldable pub project_refusal : (J : List ℕ) → Run → (Π S : List ℕ) → (scratch output : ℕ) → Answer
project_refusal J x Π S scratch output =
    let P = parameters J in
    job_refusal J then run_refusal P x then projection_refusal P x Π then lent_refusal P x S scratch p_section output

-- and the call that gives a run's rows of t
unfoldable pub rows_refusal : (J : List ℕ) → Run → (S : List ℕ) → (scratch output : ℕ) → Answer
rows_refusal J x S scratch output =
    let P = parameters J in
    job_refusal J then run_refusal P x then lent_refusal P x S scratch (rows_section P x) output

module _ (J : List ℕ) (x : Run) where
  open parameters J use {n, κ, bound_A}

  -- "gives that run's p": Σ Π_i·s_i over the run's vectors, as p is over all
  unfoldable pub run_p : (Π S : List ℕ) → ℕ → ℕ
  run_p Π S j = Σ (size x) (λ i. F.projection (public J Π) (witness (parameters J) S) i j) % Q

  -- "the runs' rows" of t: t_i = A·s_i of the run's vectors
  unfoldable pub run_rows : (S : List ℕ) → List ℕ
  run_rows S = flat (rows (size x) κ (F.t (public J []) (witness (parameters J) S)))

  -- "for t also 13, its i counted over the whole job"
  unfoldable pub run_norm : (S : List ℕ) → Answer
  run_norm S = first (size x) (λ i. require (dec_le (norm_of (table n (witness (parameters J) S i))) bound_A) (refused 13 (x.first + i)))

-- what the projection call answers: it is refused nothing in its work
abbrev pub project_answer : (J : List ℕ) → Run → (Π S scratch output : List ℕ) → Answer
project_answer J x Π S scratch output = project_refusal J x Π S (length scratch) (length output)

-- an output that starts with a section; words beyond "never change"
unfoldable pub stored : (made : List Section) → (words output : List ℕ) → List ℕ
stored made words output = sections (words ∷ []) ++ drop (span made) output

-- the output of the projection call at exit: p's section; a refusal leaves it
unfoldable pub project_output : (J : List ℕ) → Run → (Π S scratch output : List ℕ) → List ℕ
project_output J x Π S scratch output =
    result_of (project_answer J x Π S scratch output) (stored p_section (table 256 (run_p J x Π S)) output) output

-- its scratch at exit: "After any later answer scratch is zero to the length needed"
unfoldable pub project_scratch : (J : List ℕ) → Run → (Π S scratch output : List ℕ) → List ℕ
project_scratch J x Π S scratch output =
    result_of (project_answer J x Π S scratch output) (zeroed (scratch_need (parameters J)) scratch) scratch

-- what the call on rows answers
unfoldable pub commit_rows : (J : List ℕ) → Run → (S : List ℕ) → (scratch output : ℕ) → Answer
commit_rows J x S scratch output = rows_refusal J x S scratch output then run_norm J x S

-- an output that starts with the rows' section
abbrev pub stored_rows : (J : List ℕ) → Run → (S output : List ℕ) → List ℕ
stored_rows J x S output = stored (rows_section (parameters J) x) (run_rows J x S) output

-- what its work leaves in the output: the rows' section; "after 13 […] the output's needed part is zero too"
unfoldable pub rows_made : (J : List ℕ) → Run → (S output : List ℕ) → List ℕ
rows_made J x S output =
    result_of (run_norm J x S) (stored_rows J x S output) (zeroed (span (rows_section (parameters J) x)) output)

-- its output at exit
unfoldable pub rows_output : (J : List ℕ) → Run → (S scratch output : List ℕ) → List ℕ
rows_output J x S scratch output = result_of (rows_refusal J x S (length scratch) (length output)) (rows_made J x S output) output

-- its scratch at exit
unfoldable pub rows_scratch : (J : List ℕ) → Run → (S scratch output : List ℕ) → List ℕ
rows_scratch J x S scratch output =
    result_of (rows_refusal J x S (length scratch) (length output)) (zeroed (scratch_need (parameters J)) scratch) scratch

-- "The adding call refuses by 9 and 10, the first p before the second, then by 2."
unfoldable pub p_refusal : List ℕ → Answer
p_refusal p = layout 9 p 0 p_section then ranged 10 p 0 p_section

unfoldable pub add_refusal : (p q : List ℕ) → (output : ℕ) → Answer
add_refusal p q output = p_refusal p then p_refusal q then output_refusal p_section output

-- "another adds two such p": word by word, after the counts
unfoldable pub p_sum : (p q : List ℕ) → List ℕ
p_sum p q = table 256 (λ j. zadd (get_or p (1 + j) 0) (get_or q (1 + j) 0))

-- its output at exit
unfoldable pub add_output : (p q output : List ℕ) → List ℕ
add_output p q output = result_of (add_refusal p q (length output)) (stored p_section (p_sum p q) output) output
