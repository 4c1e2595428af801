-- The terms of rows of the projection for four k, over the words of slices: a column's four sums stand side by side.
use Rattle.std.specs.Prelude.{◌≡◌, ℕ, ◌+◌, ◌*◌, ◌/◌, ◌%◌, ◌<◌, List, slice_index}
use Rattle.math.specs.lists.Sum.{Σ}
use Rattle.math.specs.lists.Table.{table}
use Rattle.spec_leaves.specs.Zq.{Q}
use Rattle.ring_zq.specs.Words.{lowered}
use Rattle.core_jl.specs.Rows.{term}
use Rattle.core_jl_transpose.specs.Omega.{carried}

-- the number of the entries of two projection words, the second `step` after the first: a word's upper two bits fix its entry
abbrev pub pair_number : List ℕ → (at step : ℕ) → ℕ
pair_number R at step = slice_index R at / 1073741824 + 4 * (slice_index R (at + step) / 1073741824)

-- the sum of the terms of two words of omega and the entries of number x
abbrev pub pair_sum : List ℕ → (at x : ℕ) → ℕ
pair_sum R at x = carried (term (x % 4 * 1073741824) (slice_index R at)) (term (x / 4 * 1073741824) (slice_index R (at + 1)))

-- and for each of four k
abbrev pub pair_entries : List ℕ → (at x : ℕ) → List ℕ
pair_entries R at x = table 4 (λ k. pair_sum R (at + k * 256) x)

-- entry q of the sums of two pairs of rows for each number of their entries and each of four k
abbrev pub pair_entry : List ℕ → (om q : ℕ) → ℕ
pair_entry R om q = pair_sum R (om + q / 64 * 2 + q % 4 * 256) (q / 4 % 16)

-- the sums of two pairs of rows
abbrev pub pair_table : List ℕ → (om : ℕ) → List ℕ
pair_table R om = table 128 (pair_entry R om)

-- a sum of two words as the tables hold it: at most Q
abbrev pub lowered_sum : ℕ → ℕ → ℕ
lowered_sum a b = lowered (carried a b)

-- four entries of the pairs' sums from x on, and four from y on added
abbrev pub joined_sums : List ℕ → (x y : ℕ) → List ℕ
joined_sums pairs x y = table 4 (λ k. lowered_sum (slice_index pairs (x + k)) (slice_index pairs (y + k)))

-- the same for each number of the first two rows' entries
abbrev pub joined_row : List ℕ → (y : ℕ) → List ℕ
joined_row pairs y = table 64 (λ q. lowered_sum (slice_index pairs q) (slice_index pairs (y + q % 4)))

-- entry q of the sums of four rows: the sums for number q / 4 of their entries and k = q % 4
abbrev pub four_entry : List ℕ → ℕ → ℕ
four_entry pairs q = lowered_sum (slice_index pairs (q % 64)) (slice_index pairs (64 + 4 * (q / 64) + q % 4))

-- the sums of four rows
abbrev pub four_table : List ℕ → List ℕ
four_table pairs = table 1024 (four_entry pairs)

-- entry q of the tables of 16 rows: entry q % 1024 of that of rows 4·(q / 1024) to 4·(q / 1024) + 3
abbrev pub tables_entry : List ℕ → (om q : ℕ) → ℕ
tables_entry R om q = four_entry (pair_table R (om + 4 * (q / 1024))) (q % 1024)

-- the tables of 16 rows
abbrev pub row_tables : List ℕ → (om : ℕ) → List ℕ
row_tables R om = table 4096 (tables_entry R om)

-- the place in their table of the entries of four projection words, `step` words apart: four times their number, that of two and 16 times that of the next two
abbrev pub four_place : List ℕ → (at step : ℕ) → ℕ
four_place R at step = 4 * (pair_number R at step + 16 * pair_number R (at + 2 * step) step)

-- what table t gives for sum p, that of column p / 4 for k = p % 4, and the 16 rows from a place on
abbrev pub row_term : List ℕ → (row width : ℕ) → List ℕ → (p t : ℕ) → ℕ
row_term R row width tables p t = slice_index tables (1024 * t + four_place R (row + 4 * t * width + p / 4) width + p % 4)

-- 2^31 added modulo 2^32: sums are kept so, since the comparison of two such words is one of signed numbers
abbrev pub biased : ℕ → ℕ
biased x = (x + 2147483648) % 4294967296

-- the sums after what the tables give for 16 rows is added, modulo Q
abbrev pub Added : List ℕ → (row width : ℕ) → (tables before after : List ℕ) → Type 0
Added R row width tables before after = (p : ℕ) → p < 4 * width → biased (slice_index after p) % Q ≡ (biased (slice_index before p) + Σ 4 (row_term R row width tables p)) % Q
