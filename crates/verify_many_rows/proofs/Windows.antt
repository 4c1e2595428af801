-- The products in the windows of the scratch, cleared, and the digits while products are stored.
use mathlib.Core.Path.{◌≡◌, sym, ap, ap₂, subst, ◌∙◌}
use mathlib.Core.Bool.{Bool, true, false, true≢false}
use mathlib.Core.List.{List, flat_map}
use Prim.Native.Nat.{ℕ, ◌+◌, ◌-◌, ◌*◌, ◌≤◌, ◌<◌}
use native.Mathlib.Nat.{mul-le-mul_right}
use native.Mathlib.Decide.{dec_lt, ℕ_discrete}
use native.Mathlib.Omega.{arith}
use lib.ListN.{length, replicate, length-replicate}
use Rattle.math.specs.lists.Table.{table}
use Rattle.math.specs.lists.Part.{part, splice}
use Rattle.math.proofs.lists.Splice.{part-splice-before, part-splice-same}
use Rattle.spec_leaves.specs.Ring.{words}
use Rattle.spec_protocol.specs.Parameters.{parameters}
use Rattle.spec_protocol.specs.Layout.{scratch_need}
use Rattle.spec_protocol.specs.Formulas.{flat}
use Rattle.spec_protocol.specs.Many.{many_need, transcript_part, row_product, AllRowsDone}
use Rattle.spec_protocol.proofs.Flat.{length-words}
use Rattle.ring_rq_matrix.proofs.Place.{rows-within}
use Rattle.core_workspace.specs.Holds.{Holds}
use Rattle.core_workspace.proofs.Holds.{holds-before, holds_after}
use Rattle.verify_many_windows.specs.Digits.{window_digits, StoredDigits}
use Rattle.verify_many_windows.proofs.WindowLaws.{of_done}
use Rattle.verify_many_windows.proofs.WindowDigits.{length-window_digits}
use Rattle.verify_many_rows.specs.Rows.{stored_for, ProductsZero}

-- the digits stay where they are stored
module _ (J T₀ : List ℕ) (count : ℕ) (passes : ℕ → Bool) (stored : Bool) (ρ : ℕ) (S S' : List ℕ) (m place : ℕ) (few : ρ < 64)
    (at : place ≡ m * scratch_need (parameters J) + (scratch_need (parameters J) - 4096) + 64 * ρ) where
  pub digits_stay : (pass : Bool) → pass ≡ passes m → S' ≡ stored_for J T₀ count ρ m place pass S → StoredDigits J count passes T₀ S stored → StoredDigits J count passes T₀ S' stored
  digits_stay false same e d = subst (λ s. StoredDigits J count passes T₀ s stored) (sym e) d
  digits_stay true same e d = record { fitting = d.fitting; all = λ u i c t. subst (λ s. Holds s (i * need) (ws i)) (sym e) (go u i c t (dec_lt m i)) }
    where
      need : ℕ
      need = scratch_need (parameters J)

      ws : ℕ → List ℕ
      ws i = window_digits (parameters J) (transcript_part (parameters J) count T₀ i)

      w : List ℕ
      w = words (row_product J (transcript_part (parameters J) count T₀ m) ρ)

      go : stored ≡ true → (i : ℕ) → i < count → passes i ≡ true → Dec (m < i) → Holds (splice S place w) (i * need) (ws i)
      go u i c t (yes less) =
          holds_after S (i * need) (ws i) place w (omega (arith, at, length-words (row_product J (transcript_part (parameters J) count T₀ m) ρ), rows-within m i need less)) (d.all u i c t)
      go u i c t (no more) =
          holds-before S (i * need) (ws i) place w
          (omega (arith, at, length-window_digits (parameters J) (transcript_part (parameters J) count T₀ i), d.fitting u, mul-le-mul_right {m = i} {n = m} need (omega arith))) (d.all u i c t)

-- one more window's products set to zero
pub zero_next : (S S' : List ℕ) (n m count : ℕ) → 4096 ≤ n → m < count → count * n ≤ length S → S' ≡ splice S (m * n + (n - 4096)) (replicate 4096 0)
    → ((k : ℕ) → k < m → part S (k * n + (n - 4096)) 4096 ≡ replicate 4096 0) → (k : ℕ) → k < m + 1 → part S' (k * n + (n - 4096)) 4096 ≡ replicate 4096 0
zero_next S S' n m count large c room stored zero k h = by (ℕ_discrete k m)
  where
    size : length (replicate {A = ℕ} 4096 0) ≡ 4096
    size = length-replicate {A = ℕ} 4096 0

    inside : m * n + n ≤ length S
    inside = omega (arith, rows-within m count n c)

    by : Dec (k ≡ m) → part S' (k * n + (n - 4096)) 4096 ≡ replicate 4096 0
    by (yes same) =
        let at = m * n + (n - 4096) in
        ap (λ j. part S' (j * n + (n - 4096)) 4096) same
        ∙ ap₂ (λ l w. part l at w) stored (sym size)
        ∙ part-splice-same 0 S at (replicate 4096 0) (omega (arith, size, inside))
    by (no other) =
        let below : k < m = omega (arith, other) in
        ap (λ l. part l (k * n + (n - 4096)) 4096) stored
        ∙ part-splice-before 0 S (m * n + (n - 4096)) (replicate 4096 0) (k * n + (n - 4096)) 4096 (omega (arith, rows-within k m n below))
        ∙ zero k below

-- no row is done, and all products are zero
pub rows_cleared : (J T : List ℕ) (count : ℕ) (passes : ℕ → Bool) (S : List ℕ) → many_need (parameters J) count ≤ length S → ProductsZero (parameters J) count S → AllRowsDone J count passes T S 0
unfolding flat table flat_map
rows_cleared J T count passes S room zero m c t =
    of_done J (transcript_part (parameters J) count T m) S m 0 (omega (arith, rows-within m count (scratch_need (parameters J)) c)) (zero m c)

-- so many rows are done, by an equal number
pub rows_to : (J T : List ℕ) (count : ℕ) (passes : ℕ → Bool) (S : List ℕ) (a b : ℕ) → a ≡ b → AllRowsDone J count passes T S a → AllRowsDone J count passes T S b
rows_to J T count passes S a b e = subst (λ ρ. AllRowsDone J count passes T S ρ) e

-- no digits are stored
pub none-stored : (J T : List ℕ) (count : ℕ) (passes : ℕ → Bool) (S : List ℕ) → StoredDigits J count passes T S false
none-stored J T count passes S = record { fitting = λ e. absurd (true≢false (sym e)); all = λ e. absurd (true≢false (sym e)) }
