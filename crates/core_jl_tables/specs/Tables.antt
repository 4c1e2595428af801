-- The places of four rows' entries in their tables, and what the tables give added to the sums of columns.
use Rattle.std.specs.Prelude.{◌≡◌, ℕ, zero, suc, ◌+◌, ◌*◌, ◌/◌, ◌%◌, ◌<◌, ◌≤◌, List, length, slice_index}
use Rattle.math.specs.lists.Table.{table}
use Rattle.spec_leaves.specs.Zq.{Q}
use Rattle.core_jl_transpose.specs.Omega.{carried}
use Rattle.core_jl_tables.specs.Pairs.{four_place, biased}

-- a sum that is kept with 2^31 added, and a term added to it
abbrev pub biased_sum : ℕ → ℕ → ℕ
biased_sum x term = biased (carried (biased x) term)

-- and the first terms added to it
unfoldable pub terms_added : (ℕ → ℕ) → ℕ → ℕ → ℕ
terms_added f x zero = x
terms_added f x (suc t) = biased_sum (terms_added f x t) (f t)

-- entry q of the places of 64 columns and 16 rows: those of column q % 64 and of the four rows from 4·(q / 64) on
abbrev pub place_entry : List ℕ → (at step q : ℕ) → ℕ
place_entry R at step q = four_place R (at + 4 * (q / 64) * step + q % 64) step

-- such places leave room for four sums
abbrev pub Places : List ℕ → Type 0
Places places = (length places ≡ 256) × ((q : ℕ) → q < 256 → slice_index places q ≤ 1020)

-- what the tables give is at most Q
abbrev pub UpToQ : List ℕ → Type 0
UpToQ tables = (i : ℕ) → i < 4096 → slice_index tables i ≤ Q

-- what table t gives for column w and k
abbrev pub table_term : (tables places : List ℕ) (w k t : ℕ) → ℕ
table_term tables places w k t = slice_index tables (1024 * t + slice_index places (64 * t + w) + k)

-- four sums from a place on, with what the tables give for column w added
abbrev pub column_added : List ℕ → (at : ℕ) → (tables places : List ℕ) (w : ℕ) → List ℕ
column_added sums at tables places w = table 4 (λ k. terms_added (table_term tables places w k) (slice_index sums (at + k)) 4)

-- the sums of 64 columns from a place on, with what the tables give added
abbrev pub block_added : List ℕ → (at : ℕ) → (tables places : List ℕ) → List ℕ
block_added sums at tables places = table 256 (λ p. terms_added (table_term tables places (p / 4) (p % 4)) (slice_index sums (at + p)) 4)
