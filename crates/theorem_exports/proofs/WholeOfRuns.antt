-- The laws of runs over the exported calls, from what their contracts ensure: of calls that answer 0, what is handed on is the whole's.
use mathlib.Core.Path.{◌≡◌, sym, ap, ◌∙◌}
use mathlib.Core.List.{List, [], ◌∷◌, ◌++◌}
use Prim.Native.Nat.{ℕ, ◌*◌}
use lib.ListN.{length, get_or, take}
use Rattle.math.specs.lists.Part.{part}
use Rattle.spec_protocol.specs.Parameters.{parameters}
use Rattle.spec_protocol.specs.Layout.{span, sections}
use Rattle.spec_protocol.specs.Views.{public, witness}
use Rattle.spec_protocol.specs.Prover.{transcript}
use Rattle.api_answers.specs.declared.verdicts.LabradorAnswer.{LabradorAnswer}
use Rattle.api_answers.specs.Calls.{labrador_answer}
use Rattle.spec_sheds.specs.Runs.{Run, size, p_section, project_answer, project_output, commit_rows, rows_output, add_refusal, add_output}
use Rattle.spec_sheds.specs.Split.{Splits, Rising, Sum, one, both, runs_of, projection_of, vectors_of}
use Rattle.spec_sheds.proofs.Calls.{Projected, Added, Summed, Committed, Joined, whole-p_of_calls, whole-t_of_calls}
use Rattle.theorem_exports.proofs.Zero.{project_zero, rows_zero, add-zero}

-- a call of `labrador_shed_projection` on a run of the whole slices that answers 0, with any buffers, and the p that is handed on
pub record ProjectionCall (J R W : List ℕ) (x : Run) (p : List ℕ) : Type 0 where
  pub scratch : List ℕ
  pub output : List ℕ
  pub exit : List ℕ
  pub answer : LabradorAnswer
  pub answered : answer ≡ labrador_answer (project_answer J x (projection_of J R x) (vectors_of J W x) scratch output)
  pub zero : answer.number ≡ 0
  pub left : exit ≡ project_output J x (projection_of J R x) (vectors_of J W x) scratch output
  pub handed_on : p ≡ take (span p_section) exit

-- a call of `labrador_add_projections` that answers 0
pub record AddingCall (p q sum : List ℕ) : Type 0 where
  pub output : List ℕ
  pub exit : List ℕ
  pub answer : LabradorAnswer
  pub answered : answer ≡ labrador_answer (add_refusal p q (length output))
  pub zero : answer.number ≡ 0
  pub left : exit ≡ add_output p q output
  pub handed_on : sum ≡ take (span p_section) exit

-- a call of `labrador_shed_rows` on a run of the whole witness that answers 0: the words after the count are handed on
pub record RowsCall (J W : List ℕ) (x : Run) (ws : List ℕ) : Type 0 where
  pub scratch : List ℕ
  pub output : List ℕ
  pub exit : List ℕ
  pub answer : LabradorAnswer
  pub answered : answer ≡ labrador_answer (commit_rows J x (vectors_of J W x) (length scratch) (length output))
  pub zero : answer.number ≡ 0
  pub left : exit ≡ rows_output J x (vectors_of J W x) scratch output
  pub handed_on : ws ≡ part exit 1 (64 * (size x * (parameters J).κ))

-- the calls of a sum, and those on runs whose words are joined
unfoldable pub SumCalls : (J R W : List ℕ) → Sum → List ℕ → Type 0
SumCalls J R W (one x) p = ProjectionCall J R W x p
SumCalls J R W (both a b) sum = (p : List ℕ) × (q : List ℕ) × SumCalls J R W a p × SumCalls J R W b q × AddingCall p q sum

unfoldable pub RowsCalls : (J W : List ℕ) → List Run → List ℕ → Type 0
RowsCalls J W [] ws = ws ≡ []
RowsCalls J W (x ∷ xs) ws = (first : List ℕ) × (rest : List ℕ) × RowsCall J W x first × RowsCalls J W xs rest × (ws ≡ first ++ rest)

module _ (J R W : List ℕ) where
  projected : (x : Run) (p : List ℕ) → ProjectionCall J R W x p → Projected J R W x p
  projected x p c = record {
    scratch = c.scratch;
    output = c.output;
    exit = c.exit;
    answer = project_zero J x (projection_of J R x) (vectors_of J W x) (length c.scratch) (length c.output) (sym (ap (λ a. a.number) c.answered) ∙ c.zero);
    left = c.left;
    handed_on = c.handed_on;
  }

  added : (p q sum : List ℕ) → AddingCall p q sum → Added p q sum
  added p q sum c = record {
    output = c.output;
    exit = c.exit;
    answer = add-zero p q (length c.output) (sym (ap (λ a. a.number) c.answered) ∙ c.zero);
    left = c.left;
    handed_on = c.handed_on;
  }

  summed : (t : Sum) (p : List ℕ) → SumCalls J R W t p → Summed J R W t p
  unfolding SumCalls Summed
  summed (one x) p c = projected x p c
  summed (both a b) sum (p, q, c, d, e) = (p, q, summed a p c, summed b q d, added p q sum e)

  committed : (x : Run) (ws : List ℕ) → RowsCall J W x ws → Committed J W x ws
  committed x ws c = record {
    scratch = c.scratch;
    output = c.output;
    exit = c.exit;
    answer = rows_zero J x (vectors_of J W x) (length c.scratch) (length c.output) (sym (ap (λ a. a.number) c.answered) ∙ c.zero);
    left = c.left;
    handed_on = c.handed_on;
  }

  joined : (xs : List Run) (ws : List ℕ) → RowsCalls J W xs ws → Joined J W xs ws
  unfolding RowsCalls Joined
  joined [] ws e = e
  joined (x ∷ xs) ws (first, rest, c, d, e) = (first, rest, committed x first c, joined xs rest d, e)

  -- "For any split into runs, added in any order, the sum is the whole p.": section p of the whole transcript, after its count
  pub whole-p_of_exports : (t : Sum) (p : List ℕ) → SumCalls J R W t p → Splits (parameters J).r (runs_of t) → p ≡ sections (get_or (transcript (public J R) (witness (parameters J) W)) 1 [] ∷ [])
  whole-p_of_exports t p c s = whole-p_of_calls J R W t p (summed t p c) s

  -- "For t the runs' rows, laid next to each other by rising index, are the whole t.": section t's words
  pub whole-t_of_exports : (xs : List Run) (ws : List ℕ) → RowsCalls J W xs ws → Splits (parameters J).r xs → Rising xs → ws ≡ get_or (transcript (public J R) (witness (parameters J) W)) 5 []
  whole-t_of_exports xs ws c s rise = whole-t_of_calls J R W xs ws (joined xs ws c) s rise
