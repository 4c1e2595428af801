-- The projection of a run of vectors over the words of slices. The whole p is the run of all vectors.
use Rattle.std.specs.Prelude.{List, ℕ, ◌+◌, ◌-◌, ◌*◌, ◌%◌, ◌≤◌, length}
use Rattle.math.specs.lists.Sum.{Σ}
use Rattle.math.specs.lists.Table.{table}
use Rattle.spec_leaves.specs.Zq.{Q}
use Rattle.core_jl.specs.Rows.{flipped_row, row_sum}

-- row j of Π_i times s_i, before the reduction modulo Q. The projection words start at a place of R and s_1 at one of W; a vector has 64·n words
abbrev pub vector_row : List ℕ → ℕ → List ℕ → ℕ → ℕ → ℕ → ℕ → ℕ
vector_row R pi W s n i j = row_sum R (pi + (i * 256 + j) * (64 * n)) W (s + i * (64 * n)) (64 * n)

-- row j of so many vectors from `first` on, as sums of flipped words
unfoldable pub made_sum : List ℕ → ℕ → List ℕ → ℕ → ℕ → ℕ → ℕ → ℕ → ℕ
made_sum R pi W s n first count j = Σ count (λ i. flipped_row R (pi + ((first + i) * 256 + j) * (64 * n)) W (s + (first + i) * (64 * n)) (64 * n))

-- row j of the projection of the vectors from `first` up to `end`
unfoldable pub run_row : List ℕ → ℕ → List ℕ → ℕ → ℕ → ℕ → ℕ → ℕ → ℕ
run_row R pi W s n first end j = Σ (end - first) (λ i. vector_row R pi W s n (first + i) j) % Q

-- the 256 words of the projection of the vectors from `first` up to `end`
abbrev pub run : List ℕ → ℕ → List ℕ → ℕ → ℕ → ℕ → ℕ → List ℕ
run R pi W s n first end = table 256 (run_row R pi W s n first end)

-- the vectors up to `end` and their matrices lie within the slices, and their sums within 64 bits
pub record Within (R : List ℕ) (pi : ℕ) (W : List ℕ) (s n end : ℕ) : Type 0 where
  pub matrices : pi + end * 256 * (64 * n) ≤ length R
  pub vectors : s + end * (64 * n) ≤ length W
  pub narrow : n ≤ 1024
  pub few : end ≤ 32768
