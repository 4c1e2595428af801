-- The places of 16 rows' entries, and the sums of 64 columns stored among those of a row's columns.
use Rattle.std.proofs.Common.{◌≡◌, ℕ, ◌+◌, ◌*◌, ◌/◌, ◌%◌, ◌^◌, ◌<◌, ◌≤◌, List, length, get_or, set, sym, ap, ◌∙◌, ap₂, zero-add, arith}
use Rattle.math.specs.lists.Table.{table}
use Rattle.math.specs.lists.Part.{splice}
use Rattle.math.proofs.lists.Table.{length-table, get_or-table}
use Rattle.math.proofs.lists.Splice.{get_or-splice-after}
use Rattle.math.proofs.lists.Fill.{get_or-splice-table, table_more, entry-stored}
use Rattle.spec_leaves.specs.Zq.{Q}
use Rattle.core_jl_tables.specs.Pairs.{biased, four_place, row_term, Added}
use Rattle.core_jl_tables.specs.Tables.{terms_added, place_entry, Places, table_term, column_added, block_added}
use Rattle.core_jl_tables.proofs.Terms.{terms_ext, terms-mod}

-- the places of four more rows
pub places-next : (R : List ℕ) (at step : ℕ) (l before : List ℕ) (t : ℕ) → before ≡ splice l 0 (table (64 * t) (place_entry R at step))
    → splice before (64 * t) (table 64 (λ w. four_place R (at + 4 * t * step + w) step)) ≡ splice l 0 (table (64 * (t + 1)) (place_entry R at step))
places-next R at step l before t e =
    let g : ℕ → ℕ = λ w. four_place R (at + 4 * t * step + w) step in
    let next : 64 * t + 64 ≡ 64 * (t + 1) = omega arith in
    ap₂ (λ b p. splice b p (table 64 g)) e (sym (zero-add (64 * t)))
    ∙ table_more l 0 (64 * t) 64 (place_entry R at step) g (λ w h.
    let rows : t ≡ (64 * t + w) / 64 = omega arith in
    let column : w ≡ (64 * t + w) % 64 = omega arith in
    ap₂ (λ u v. four_place R (at + 4 * u * step + v) step) rows column)
    ∙ ap (λ n. splice l 0 (table n (place_entry R at step))) next

-- a place leaves room for four sums
place-below : (R : List ℕ) (at step : ℕ) → ((i : ℕ) → get_or R i 0 < 2 ^ 32) → four_place R at step ≤ 1020
place-below R at step words = omega (arith, words at, words (at + step), words (at + 2 * step), words (at + 2 * step + step))

pub places-below : (R places : List ℕ) (at step : ℕ) → ((i : ℕ) → get_or R i 0 < 2 ^ 32) → places ≡ table 256 (place_entry R at step) → Places places
places-below R places at step words e = (
  ap length e ∙ length-table 256 (place_entry R at step),
  λ q h. omega (arith, ap (λ c. get_or c q 0) e ∙ get_or-table 256 (place_entry R at step) q 0 h, place-below R (at + 4 * (q / 64) * step + q % 64) step words),
)

-- one more sum of a column
pub sum-stored : (l before tables places : List ℕ) (at w k v : ℕ) → before ≡ splice l at (table k (λ k. terms_added (table_term tables places w k) (get_or l (at + k) 0) 4))
    → v ≡ terms_added (table_term tables places w k) (get_or before (at + k) 0) 4
    → set before (at + k) v ≡ splice l at (table (k + 1) (λ k. terms_added (table_term tables places w k) (get_or l (at + k) 0) 4))
sum-stored l before tables places at w k v e is =
    let f : ℕ → ℕ = λ k. terms_added (table_term tables places w k) (get_or l (at + k) 0) 4 in
    entry-stored l before at k f v e
    (is ∙ ap (λ x. terms_added (table_term tables places w k) x 4) (ap (λ b. get_or b (at + k) 0) e ∙ get_or-splice-after l at (table k f) (at + k) 0 (omega (arith, length-table k f))))

-- one more column of a block
pub column-stored : (l before tables places : List ℕ) (at w : ℕ)
    → before ≡ splice l at (table (4 * w) (λ p. terms_added (table_term tables places (p / 4) (p % 4)) (get_or l (at + p) 0) 4))
    → splice before (at + 4 * w) (column_added before (at + 4 * w) tables places w)
    ≡ splice l at (table (4 * (w + 1)) (λ p. terms_added (table_term tables places (p / 4) (p % 4)) (get_or l (at + p) 0) 4))
column-stored l before tables places at w e =
    let f : ℕ → ℕ = λ p. terms_added (table_term tables places (p / 4) (p % 4)) (get_or l (at + p) 0) 4 in
    let done : List ℕ = splice l at (table (4 * w) f) in
    let g : ℕ → ℕ = λ k. terms_added (table_term tables places w k) (get_or done (at + 4 * w + k) 0) 4 in
    let next : 4 * w + 4 ≡ 4 * (w + 1) = omega arith in
    ap (λ b. splice b (at + 4 * w) (column_added b (at + 4 * w) tables places w)) e
    ∙ table_more l at (4 * w) 4 f g (λ k h.
    let column : w ≡ (4 * w + k) / 4 = omega arith in
    let rest : k ≡ (4 * w + k) % 4 = omega arith in
    let place : at + 4 * w + k ≡ at + (4 * w + k) = omega arith in
    ap (λ x. terms_added (table_term tables places w k) x 4)
    (get_or-splice-after l at (table (4 * w) f) (at + 4 * w + k) 0 (omega (arith, length-table (4 * w) f)) ∙ ap (λ p. get_or l p 0) place)
    ∙ ap₂ (λ c r. terms_added (table_term tables places c r) (get_or l (at + (4 * w + k)) 0) 4) column rest)
    ∙ ap (λ n. splice l at (table n f)) next

module _ (R : List ℕ) (row width : ℕ) (tables : List ℕ) where
  -- what table t gives for sum p of block m
  block_term : (places : List ℕ) (m p t : ℕ) → places ≡ table 256 (place_entry R (row + 64 * m) width) → p < 256 → t < 4
      → table_term tables places (p / 4) (p % 4) t ≡ row_term R row width tables (256 * m + p) t
  block_term places m p t e h few =
      let w = p / 4 in
      let rows : (64 * t + w) / 64 ≡ t = omega arith in
      let column : (64 * t + w) % 64 ≡ w = omega arith in
      let first : (256 * m + p) / 4 ≡ 64 * m + w = omega arith in
      let rest : p % 4 ≡ (256 * m + p) % 4 = omega arith in
      let place : row + 64 * m + 4 * t * width + w ≡ row + 4 * t * width + (64 * m + w) = omega arith in
      ap (λ n. get_or tables (1024 * t + n + p % 4) 0)
      (ap (λ c. get_or c (64 * t + w) 0) e
      ∙ get_or-table 256 (place_entry R (row + 64 * m) width) (64 * t + w) 0 (omega arith)
      ∙ ap₂ (λ u v. four_place R (row + 64 * m + 4 * u * width + v) width) rows column
      ∙ ap (λ a. four_place R a width) (place ∙ ap (λ c. row + 4 * t * width + c) (sym first)))
      ∙ ap (λ r. get_or tables (1024 * t + four_place R (row + 4 * t * width + (256 * m + p) / 4) width + r) 0) rest

  -- one more block
  pub block_stored : (l before places : List ℕ) (m : ℕ) → before ≡ splice l 0 (table (256 * m) (λ p. terms_added (row_term R row width tables p) (get_or l p 0) 4))
      → places ≡ table 256 (place_entry R (row + 64 * m) width)
      → splice before (256 * m) (block_added before (256 * m) tables places) ≡ splice l 0 (table (256 * (m + 1)) (λ p. terms_added (row_term R row width tables p) (get_or l p 0) 4))
  block_stored l before places m e ep =
      let f : ℕ → ℕ = λ p. terms_added (row_term R row width tables p) (get_or l p 0) 4 in
      let done : List ℕ = splice l 0 (table (256 * m) f) in
      let g : ℕ → ℕ = λ p. terms_added (table_term tables places (p / 4) (p % 4)) (get_or done (256 * m + p) 0) 4 in
      let next : 256 * m + 256 ≡ 256 * (m + 1) = omega arith in
      ap (λ b. splice b (256 * m) (block_added b (256 * m) tables places)) e
      ∙ ap (λ at. splice done at (table 256 g)) (sym (zero-add (256 * m)))
      ∙ table_more l 0 (256 * m) 256 f g (λ p h.
      ap (λ x. terms_added (table_term tables places (p / 4) (p % 4)) x 4) (get_or-splice-after l 0 (table (256 * m) f) (256 * m + p) 0 (omega (arith, length-table (256 * m) f)))
      ∙ terms_ext (table_term tables places (p / 4) (p % 4)) (row_term R row width tables (256 * m + p)) (get_or l (256 * m + p) 0) 4 (λ t few. block_term places m p t ep h few))
      ∙ ap (λ n. splice l 0 (table n f)) next

  -- all blocks, modulo Q
  pub blocks_added : (l after : List ℕ) (count : ℕ) → ((i : ℕ) → get_or tables i 0 < 2 ^ 32) → 4 * width ≤ length l → count ≡ 4 * width
      → after ≡ splice l 0 (table count (λ p. terms_added (row_term R row width tables p) (get_or l p 0) 4)) → Added R row width tables l after
  blocks_added l after count words long same e p h =
      let f : ℕ → ℕ = λ p. terms_added (row_term R row width tables p) (get_or l p 0) 4 in
      ap (λ b. biased (get_or b p 0) % Q) e
      ∙ ap₂ (λ n i. biased (get_or (splice l 0 (table n f)) i 0) % Q) same (sym (zero-add p))
      ∙ ap (λ x. biased x % Q) (get_or-splice-table l 0 (4 * width) f p 0 h (omega arith))
      ∙ terms-mod (row_term R row width tables p) (get_or l p 0) 4 (λ t. words (1024 * t + four_place R (row + 4 * t * width + p / 4) width + p % 4))
