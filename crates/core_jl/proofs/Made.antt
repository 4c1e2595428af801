-- Rows as they are made: sums of flipped words in halves, added to the sums of 256 rows.
use mathlib.Core.Path.{◌≡◌, refl, sym, ap, ap₂, ◌∙◌}
use mathlib.Core.Bool.{cond}
use mathlib.Core.List.{List}
use Prim.Native.Nat.{ℕ, ◌+◌, ◌-◌, ◌*◌, ◌/◌, ◌%◌, ◌≤◌, ◌<◌}
use native.Mathlib.Nat.{mul-le-mul_right}
use native.Mathlib.Omega.{arith}
use lib.Dec.{ltb}
use lib.ListN.{length, get_or, replicate, length-replicate, get_or-replicate}
use Rattle.math.specs.lists.Sum.{Σ}
use Rattle.math.specs.lists.Table.{table}
use Rattle.math.proofs.lists.Sum.{Σ-suc, Σ-bound, Σ-mod_ext}
use Rattle.math.proofs.lists.Table.{length-table, get_or-table, table_ext, is_table}
use Rattle.spec_leaves.specs.Zq.{Q}
use Rattle.spec_leaves.proofs.Cases.{ltb_cases}
use Rattle.core_jl.specs.Rows.{flipped, is_negative, flip_Q, flipped_row, row_added, SumsRoom, row_sum}
use Rattle.core_jl.specs.Run.{vector_row, made_sum, run_row}
use Rattle.core_jl.proofs.Terms.{flipped-sum}

-- the words of a slice
abbrev pub Words : List ℕ → Type 0
Words W = (k : ℕ) → get_or W k 0 ≤ 4294967295

-- a flipped word is a word, and lacks something or not
pub flipped_le : (code x : ℕ) → x ≤ 4294967295 → flipped code x ≤ 4294967295
flipped_le code x h =
    ltb_cases (λ t. cond t (4294967295 - x) (cond (ltb code 2147483648) x 0) ≤ 4294967295) code 1073741824
    (λ l. omega arith)
    (λ l. ltb_cases (λ t. cond t x 0 ≤ 4294967295) code 2147483648 (λ m. h) (λ m. omega arith))

pub negative_le : (code : ℕ) → is_negative code ≤ 1
negative_le code =
    ltb_cases (λ t. cond t 1 (cond (ltb code 2147483648) 0 0) ≤ 1) code 1073741824
    (λ l. omega arith)
    (λ l. ltb_cases (λ t. cond t 0 0 ≤ 1) code 2147483648 (λ m. omega arith) (λ m. omega arith))

-- flipped word m of a row, with what it lacks
abbrev each : List ℕ → ℕ → List ℕ → ℕ → ℕ → ℕ
each R at W wt m = flipped (get_or R (at + m) 0) (get_or W (wt + m) 0) + is_negative (get_or R (at + m) 0) * flip_Q

-- the halves, and the number of negatives, of the first m words of a row
pub record Begun (R : List ℕ) (at : ℕ) (W : List ℕ) (wt m low high negatives : ℕ) : Type 0 where
  pub sum : high * 65536 + low + negatives * flip_Q ≡ Σ m (each R at W wt)
  pub low-le : low ≤ 65535 * m
  pub high_le : high ≤ 65535 * m
  pub negatives_le : negatives ≤ m

pub begun_none : (R : List ℕ) (at : ℕ) (W : List ℕ) (wt : ℕ) → Begun R at W wt 0 0 0 0
unfolding Σ
begun_none R at W wt = record { sum = refl; low-le = omega arith; high_le = omega arith; negatives_le = omega arith }

-- one more word
pub begun_next : (R : List ℕ) (at : ℕ) (W : List ℕ) (wt m low high negatives low' high' negatives' : ℕ) → Words W → Begun R at W wt m low high negatives
    → (low' ≡ low + flipped (get_or R (at + m) 0) (get_or W (wt + m) 0) % 65536)
    × (high' ≡ high + flipped (get_or R (at + m) 0) (get_or W (wt + m) 0) / 65536)
    × (negatives' ≡ negatives + is_negative (get_or R (at + m) 0))
    → Begun R at W wt (m + 1) low' high' negatives'
begun_next R at W wt m low high negatives low' high' negatives' u b e = record {
  sum =
      next (flipped (get_or R (at + m) 0) (get_or W (wt + m) 0)) (is_negative (get_or R (at + m) 0)) e.0 e.1 e.2 b.sum ∙ sym (Σ-suc m (each R at W wt));
  low-le = omega (arith, b.low-le, e.0);
  high_le = omega (arith, b.high_le, e.1, flipped_le (get_or R (at + m) 0) (get_or W (wt + m) 0) (u (wt + m)));
  negatives_le = omega (arith, b.negatives_le, e.2, negative_le (get_or R (at + m) 0));
}
  where
    next : (t s : ℕ) → low' ≡ low + t % 65536 → high' ≡ high + t / 65536 → negatives' ≡ negatives + s → high * 65536 + low + negatives * flip_Q ≡ Σ m (each R at W wt)
        → high' * 65536 + low' + negatives' * flip_Q ≡ Σ m (each R at W wt) + (t + s * flip_Q)
    next t s el eh en f = omega arith

-- all words
pub begun_all : (R : List ℕ) (at : ℕ) (W : List ℕ) (wt count m low high negatives r : ℕ) → Begun R at W wt m low high negatives → m ≡ count → r ≡ high * 65536 + low + negatives * flip_Q
    → r ≡ flipped_row R at W wt count
unfolding flipped_row
begun_all R at W wt count m low high negatives r b e f = f ∙ b.sum ∙ ap (λ k. Σ k (each R at W wt)) e

-- a row's sum is small
pub row_small : (R : List ℕ) (at : ℕ) (W : List ℕ) (wt count : ℕ) → Words W → flipped_row R at W wt count ≤ count * 8589934590
unfolding flipped_row
row_small R at W wt count u =
    Σ-bound count 8589934590 (each R at W wt) (λ m h. omega (arith, flipped_le (get_or R (at + m) 0) (get_or W (wt + m) 0) (u (wt + m)), negative_le (get_or R (at + m) 0)))

module _ (R : List ℕ) (pi : ℕ) (W : List ℕ) (s n first : ℕ) where
  -- no vector
  pub none_made : replicate 256 0 ≡ table 256 (made_sum R pi W s n first 0)
  unfolding made_sum Σ
  none_made = is_table 256 (replicate 256 0) (λ j. 0) 0 (length-replicate {A = ℕ} 256 0) (λ i h. get_or-replicate {A = ℕ} 256 i 0 0 h)

  -- one more vector
  pub made-next : (sums : List ℕ) (k i : ℕ) → sums ≡ table 256 (made_sum R pi W s n first k) → first + k ≡ i
      → table 256 (row_added sums R (pi + i * 256 * (64 * n)) W (s + i * (64 * n)) (64 * n)) ≡ table 256 (made_sum R pi W s n first (k + 1))
  unfolding made_sum
  made-next sums k i e h = table_ext 256 _ _ one
    where
      row : ℕ → ℕ → ℕ
      row j i = flipped_row R (pi + ((first + i) * 256 + j) * (64 * n)) W (s + (first + i) * (64 * n)) (64 * n)

      one : (j : ℕ) → j < 256 → row_added sums R (pi + i * 256 * (64 * n)) W (s + i * (64 * n)) (64 * n) j ≡ Σ (k + 1) (row j)
      one j u =
          let place : pi + i * 256 * (64 * n) + j * (64 * n) ≡ pi + (i * 256 + j) * (64 * n) = omega arith in
          ap₂ (λ x p. x + flipped_row R p W (s + i * (64 * n)) (64 * n)) (ap (λ l. get_or l j 0) e ∙ get_or-table 256 (made_sum R pi W s n first k) j 0 u) place
          ∙ ap (λ i. Σ k (row j) + flipped_row R (pi + (i * 256 + j) * (64 * n)) W (s + i * (64 * n)) (64 * n)) (sym h)
          ∙ sym (Σ-suc k (row j))

  -- the sums of fewer than 32768 vectors have room
  pub made-room : (sums : List ℕ) (k : ℕ) → Words W → n ≤ 1024 → k ≤ 32767 → sums ≡ table 256 (made_sum R pi W s n first k) → SumsRoom sums
  unfolding made_sum
  made-room sums k u a b e = (
    ap length e ∙ length-table 256 (made_sum R pi W s n first k),
    λ j h.
        let small : Σ k (λ i. flipped_row R (pi + ((first + i) * 256 + j) * (64 * n)) W (s + (first + i) * (64 * n)) (64 * n)) ≤ k * (65536 * 8589934590)
        = Σ-bound k (65536 * 8589934590) _ (λ i l. omega (arith, row_small R (pi + ((first + i) * 256 + j) * (64 * n)) W (s + (first + i) * (64 * n)) (64 * n) u)) in
        omega (arith, ap (λ l. get_or l j 0) e ∙ get_or-table 256 (made_sum R pi W s n first k) j 0 h, small, mul-le-mul_right (65536 * 8589934590) b),
  )

  -- a sum as it is made, reduced, is the run's row
  pub made_is : (end j : ℕ) → Words W → made_sum R pi W s n first (end - first) j % Q ≡ run_row R pi W s n first end j
  unfolding made_sum run_row flipped_row row_sum
  made_is end j u =
      Σ-mod_ext (end - first) Q _ (λ i. vector_row R pi W s n (first + i) j)
      (λ i h. flipped-sum (64 * n) (λ m. get_or R (pi + ((first + i) * 256 + j) * (64 * n) + m) 0) (λ m. get_or W (s + (first + i) * (64 * n) + m) 0) (λ m l. u (s + (first + i) * (64 * n) + m)))
