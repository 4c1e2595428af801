-- The laws over the calls, from what their contracts ensure: of calls that are refused nothing, what is handed on is the whole's.
use mathlib.Core.Path.{◌≡◌, ap, ap₂, ◌∙◌}
use mathlib.Core.List.{List, [], ◌∷◌, ◌++◌, append-nil, flat_map}
use Prim.Native.Nat.{ℕ, ◌+◌, ◌*◌}
use native.Mathlib.Omega.{arith}
use lib.ListN.{length, get_or, take, drop}
use lib.Seq.{take_at}
use Rattle.math.specs.lists.Part.{part}
use Rattle.math.specs.lists.Table.{table}
use Rattle.math.proofs.lists.Table.{length-table}
use Rattle.spec_leaves.specs.Answer.{fine, result_of}
use Rattle.spec_leaves.specs.Zq.{zadd}
use Rattle.spec_protocol.specs.Parameters.{parameters}
use Rattle.spec_protocol.specs.Layout.{span, sections}
use Rattle.spec_protocol.specs.Views.{public, witness}
use Rattle.spec_protocol.specs.Formulas as F
use Rattle.spec_protocol.specs.Formulas.{rows}
use Rattle.spec_protocol.specs.Prover.{transcript, zeroed}
use Rattle.spec_protocol.proofs.Fine.{then_fine_left, then_fine_right}
use Rattle.spec_protocol.proofs.Flat.{length-flat, length-rows}
use Rattle.spec_sheds.specs.Runs.{Run, size, p_section, rows_section, stored, project_refusal, project_output, run_p, run_rows, run_norm, rows_refusal, commit_rows}
use Rattle.spec_sheds.specs.Runs.{rows_made, rows_output, add_refusal, add_output, p_sum}
use Rattle.spec_sheds.specs.Split.{Splits, Rising, Sum, one, both, runs_of, projection_of, vectors_of, sum_p, joined_rows}
use Rattle.spec_sheds.proofs.WholeP.{whole-p}
use Rattle.spec_sheds.proofs.WholeT.{whole-t}

-- a call on a run of the whole slices that gives p, with any buffers: its answer, what it leaves, and the p that is handed on
pub record Projected (J R W : List ℕ) (x : Run) (p : List ℕ) : Type 0 where
  pub scratch : List ℕ
  pub output : List ℕ
  pub exit : List ℕ
  pub answer : project_refusal J x (projection_of J R x) (vectors_of J W x) (length scratch) (length output) ≡ fine
  pub left : exit ≡ project_output J x (projection_of J R x) (vectors_of J W x) scratch output
  pub handed_on : p ≡ take (span p_section) exit

-- a call that adds two p
pub record Added (p q sum : List ℕ) : Type 0 where
  pub output : List ℕ
  pub exit : List ℕ
  pub answer : add_refusal p q (length output) ≡ fine
  pub left : exit ≡ add_output p q output
  pub handed_on : sum ≡ take (span p_section) exit

-- the calls of a sum
unfoldable pub Summed : (J R W : List ℕ) → Sum → List ℕ → Type 0
Summed J R W (one x) p = Projected J R W x p
Summed J R W (both a b) sum = (p : List ℕ) × (q : List ℕ) × Summed J R W a p × Summed J R W b q × Added p q sum

-- a call on a run of the whole witness that gives rows of t: the words that are handed on are those after the count
pub record Committed (J W : List ℕ) (x : Run) (ws : List ℕ) : Type 0 where
  pub scratch : List ℕ
  pub output : List ℕ
  pub exit : List ℕ
  pub answer : commit_rows J x (vectors_of J W x) (length scratch) (length output) ≡ fine
  pub left : exit ≡ rows_output J x (vectors_of J W x) scratch output
  pub handed_on : ws ≡ part exit 1 (64 * (size x * (parameters J).κ))

-- the calls on runs, their words joined
unfoldable pub Joined : (J W : List ℕ) → List Run → List ℕ → Type 0
Joined J W [] ws = ws ≡ []
Joined J W (x ∷ xs) ws = (first : List ℕ) × (rest : List ℕ) × Committed J W x first × Joined J W xs rest × (ws ≡ first ++ rest)

-- the words that one section takes
length-one : (ws : List ℕ) → length (sections (ws ∷ [])) ≡ length ws + 1
unfolding sections
length-one ws = omega (arith, ap length (append-nil ws))

-- the first words of an output that starts with a section of 256
section_taken : (f : ℕ → ℕ) (output : List ℕ) → take (span p_section) (stored p_section (table 256 f) output) ≡ sections (table 256 f ∷ [])
unfolding span stored
section_taken f output = take_at (sections (table 256 f ∷ [])) (drop 257 output) 257 (omega (arith, length-one (table 256 f), length-table 256 f))

-- the words after the count of an output that starts with a section
after-count : (ws : List ℕ) (n : ℕ) (rest : List ℕ) → length ws ≡ n → part (sections (ws ∷ []) ++ rest) 1 n ≡ ws
unfolding sections
after-count ws n rest e = ap (λ l. take n (l ++ rest)) (append-nil ws) ∙ take_at ws rest n e

-- the words of a run's rows
pub length-run_rows : (J : List ℕ) (x : Run) (S : List ℕ) → length (run_rows J x S) ≡ 64 * (size x * (parameters J).κ)
unfolding run_rows
length-run_rows J x S =
    let κ = (parameters J).κ in
    let t = F.t (public J []) (witness (parameters J) S) in
    length-flat (rows (size x) κ t) ∙ ap (λ n. 64 * n) (length-rows (size x) t κ)

module _ (J R W : List ℕ) where
  projected : (x : Run) (p : List ℕ) → Projected J R W x p → p ≡ sum_p J R W (one x)
  unfolding sum_p project_output
  projected x p c =
      let Π = projection_of J R x in
      let S = vectors_of J W x in
      let made = stored p_section (table 256 (run_p J x Π S)) c.output in
      c.handed_on ∙ ap (take (span p_section)) (c.left ∙ ap (λ a. result_of a made c.output) c.answer) ∙ section_taken (run_p J x Π S) c.output

  added : (p q sum : List ℕ) → Added p q sum → sum ≡ sections (p_sum p q ∷ [])
  unfolding add_output p_sum
  added p q sum c =
      let made = stored p_section (p_sum p q) c.output in
      c.handed_on
      ∙ ap (take (span p_section)) (c.left ∙ ap (λ a. result_of a made c.output) c.answer)
      ∙ section_taken (λ j. zadd (get_or p (1 + j) 0) (get_or q (1 + j) 0)) c.output

  summed : (t : Sum) (p : List ℕ) → Summed J R W t p → p ≡ sum_p J R W t
  unfolding Summed sum_p
  summed (one x) p c = projected x p c
  summed (both a b) sum (p, q, c, d, e) = added p q sum e ∙ ap₂ (λ x y. sections (p_sum x y ∷ [])) (summed a p c) (summed b q d)

  -- of any split, with calls added in any order, what is handed on last is section p of the whole transcript, after its count
  pub whole-p_of_calls : (t : Sum) (p : List ℕ) → Summed J R W t p → Splits (parameters J).r (runs_of t) → p ≡ sections (get_or (transcript (public J R) (witness (parameters J) W)) 1 [] ∷ [])
  whole-p_of_calls t p c s = summed t p c ∙ whole-p J R W t s

  committed : (x : Run) (ws : List ℕ) → Committed J W x ws → ws ≡ run_rows J x (vectors_of J W x)
  unfolding commit_rows rows_output rows_made stored
  committed x ws c =
      let S = vectors_of J W x in
      let need = span (rows_section (parameters J) x) in
      let before = then_fine_left (rows_refusal J x S (length c.scratch) (length c.output)) (run_norm J x S) c.answer in
      let within = then_fine_right (rows_refusal J x S (length c.scratch) (length c.output)) (run_norm J x S) c.answer in
      c.handed_on
      ∙ ap (λ l. part l 1 (64 * (size x * (parameters J).κ)))
      (c.left
      ∙ ap (λ a. result_of a (rows_made J x S c.output) c.output) before
      ∙ ap (λ a. result_of a (stored (rows_section (parameters J) x) (run_rows J x S) c.output) (zeroed need c.output)) within)
      ∙ after-count (run_rows J x S) (64 * (size x * (parameters J).κ)) (drop need c.output) (length-run_rows J x S)

  joined : (xs : List Run) (ws : List ℕ) → Joined J W xs ws → ws ≡ joined_rows J W xs
  unfolding Joined joined_rows flat_map
  joined [] ws e = e
  joined (x ∷ xs) ws (first, rest, c, d, e) = e ∙ ap₂ ◌++◌ (committed x first c) (joined xs rest d)

  -- of any split, the words of the runs' calls by rising index are section t of the whole transcript
  pub whole-t_of_calls : (xs : List Run) (ws : List ℕ) → Joined J W xs ws → Splits (parameters J).r xs → Rising xs → ws ≡ get_or (transcript (public J R) (witness (parameters J) W)) 5 []
  whole-t_of_calls xs ws c s rise = joined xs ws c ∙ whole-t J R W xs s rise
