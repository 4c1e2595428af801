-- A job's vectors split into runs, and what the runs' calls come to (document 02, Item 10: "For any split into runs, added in any order, the sum is the whole p.").
use Rattle.std.specs.Prelude.{◌≡◌, cond, ℕ, ◌+◌, ◌*◌, ◌<◌, ◌≤◌, ltb}
use mathlib.Core.List.{List, [], ◌∷◌, ◌++◌, Memᴰ, flat_map}
use Rattle.math.specs.lists.Table.{table}
use Rattle.math.specs.lists.Part.{part}
use Rattle.spec_leaves.specs.Answer.{Answer, fine, ◌then◌}
use Rattle.spec_protocol.specs.Parameters.{parameters}
use Rattle.spec_protocol.specs.Layout.{start, sections, randomness_sections, witness_sections}
use Rattle.spec_sheds.specs.Runs.{Run, size, run_p, run_rows, run_norm, p_sum}

-- 1 where an index is in a run, else 0
unfoldable pub holds : Run → ℕ → ℕ
holds x i = cond (ltb i x.first) 0 (cond (ltb i x.end) 1 0)

-- in how many of the runs an index is
unfoldable pub in_runs : List Run → ℕ → ℕ
in_runs [] i = 0
in_runs (x ∷ xs) i = holds x i + in_runs xs i

-- "any split into runs": each index below r is in one of them, and no other is in any
pub record Splits (r : ℕ) (xs : List Run) : Type 0 where
  pub once : (i : ℕ) → i < r → in_runs xs i ≡ 1
  pub inside : (i : ℕ) → r ≤ i → in_runs xs i ≡ 0

-- runs with a vector each, "by rising index"
unfoldable pub Rising : List Run → Type 0
Rising [] = Unit {0}
Rising (x ∷ xs) = (x.first < x.end) × ((y : Run) → Memᴰ y xs → x.first < y.first) × Rising xs

-- "added in any order": a run's p, or two sums added
pub data Sum : Type 0 where
  one : Run → Sum
  both : Sum → Sum → Sum

-- the runs of a sum
unfoldable pub runs_of : Sum → List Run
runs_of (one x) = x ∷ []
runs_of (both a b) = runs_of a ++ runs_of b

-- a run's projection words, of the whole randomness
abbrev pub projection_of : (J R : List ℕ) → Run → List ℕ
projection_of J R x =
    let P = parameters J in
    sections (part R (start (randomness_sections P) 0 + 16384 * P.n * x.first) (16384 * P.n * size x) ∷ [])

-- a run's vectors, of the whole witness
abbrev pub vectors_of : (J W : List ℕ) → Run → List ℕ
vectors_of J W x =
    let P = parameters J in
    sections (part W (start (witness_sections P) 0 + 64 * (x.first * P.n)) (64 * (size x * P.n)) ∷ [])

-- the p that a sum comes to, after its count
unfoldable pub sum_p : (J R W : List ℕ) → Sum → List ℕ
sum_p J R W (one x) = sections (table 256 (run_p J x (projection_of J R x) (vectors_of J W x)) ∷ [])
sum_p J R W (both a b) = sections (p_sum (sum_p J R W a) (sum_p J R W b) ∷ [])

-- "the runs' rows, laid next to each other": "rows are joined without the counts"
unfoldable pub joined_rows : (J W : List ℕ) → List Run → List ℕ
joined_rows J W = flat_map (λ x. run_rows J x (vectors_of J W x))

-- 13 of the runs, one after the other
unfoldable pub joined_norms : (J W : List ℕ) → List Run → Answer
joined_norms J W [] = fine
joined_norms J W (x ∷ xs) = run_norm J x (vectors_of J W x) then joined_norms J W xs
