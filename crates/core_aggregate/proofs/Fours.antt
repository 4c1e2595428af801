-- Rows of elements stored for four k side by side.
use mathlib.Core.Path.{◌≡◌, refl, sym, ap, ◌∙◌}
use mathlib.Core.List.{List, [], ◌++◌, flat_map}
use Prim.Native.Nat.{ℕ, zero, suc, ◌+◌, ◌*◌, ◌<◌}
use native.Mathlib.Nat.{mul-le-mul_right}
use native.Mathlib.Omega.{arith}
use Rattle.math.specs.lists.Table.{table, cat}
use Rattle.math.specs.lists.Part.{splice}
use Rattle.math.proofs.lists.Table.{length-table}
use Rattle.math.proofs.lists.Cat.{cat-suc}
use Rattle.math.proofs.lists.Splice.{splice-nil}
use Rattle.spec_leaves.specs.Rq.{Element}
use Rattle.spec_protocol.specs.Formulas.{flat, rows}
use Rattle.spec_protocol.proofs.Flat.{length-flat, length-rows}
use Rattle.spec_protocol.proofs.Stored.{flat_append}
use Rattle.core_jl_tables.specs.Fours.{spread}
use Rattle.core_jl_tables.proofs.Spread.{spread_ext, spread-all, spread_more}

-- empty runs
spread-nil : (l : List ℕ) (at step q : ℕ) (f : ℕ → List ℕ) → ((k : ℕ) → f k ≡ []) → l ≡ spread l at step q f
unfolding spread
spread-nil l at step zero f h = refl
spread-nil l at step (suc q) f h = spread-nil l at step q f h ∙ sym (ap (splice (spread l at step q f) (at + q * step)) (h q) ∙ splice-nil (spread l at step q f) (at + q * step))

-- no rows
no_rows : (n : ℕ) (f : ℕ → ℕ → Element) → flat (rows 0 n f) ≡ []
unfolding flat rows cat flat_map
no_rows n f = refl

-- one more row
rows-suc : (i n : ℕ) (f : ℕ → ℕ → Element) → rows (i + 1) n f ≡ rows i n f ++ table n (f i)
unfolding rows
rows-suc i n f = cat-suc i (λ i. table n (f i))

module _ (l : List ℕ) (to r n q : ℕ) (f : ℕ → ℕ → ℕ → Element) where
  pub side_none : l ≡ spread l to (64 * (r * n)) q (λ k. flat (rows 0 n (f k)))
  side_none = spread-nil l to (64 * (r * n)) q (λ k. flat (rows 0 n (f k))) (λ k. no_rows n (f k))

  -- one more row of n elements for each k
  pub side_next : (before : List ℕ) (i : ℕ) → i < r → before ≡ spread l to (64 * (r * n)) q (λ k. flat (rows i n (f k)))
      → spread before (to + 64 * (i * n)) (64 * (r * n)) q (λ k. flat (table n (f k i))) ≡ spread l to (64 * (r * n)) q (λ k. flat (rows (i + 1) n (f k)))
  side_next before i h e =
      ap (λ b. spread b (to + 64 * (i * n)) (64 * (r * n)) q (λ k. flat (table n (f k i)))) e
      ∙ spread_more l to (64 * (r * n)) (64 * (i * n)) (64 * n) q (λ k. flat (rows i n (f k))) (λ k. flat (table n (f k i)))
      (λ k. length-flat (rows i n (f k)) ∙ ap (λ m. 64 * m) (length-rows i (f k) n))
      (λ k. length-flat (table n (f k i)) ∙ ap (λ m. 64 * m) (length-table n (f k i)))
      (omega (arith, mul-le-mul_right n h))
      ∙ spread_ext to (64 * (r * n)) l q (λ k. flat (rows i n (f k)) ++ flat (table n (f k i))) (λ k. flat (rows (i + 1) n (f k)))
      (λ k _. sym (flat_append (rows i n (f k)) (table n (f k i))) ∙ ap flat (sym (rows-suc i n (f k))))

  -- all rows
  pub side_all : (after : List ℕ) (i : ℕ) → i ≡ r → after ≡ spread l to (64 * (r * n)) q (λ k. flat (rows i n (f k))) → after ≡ splice l to (flat (cat q (λ k. rows r n (f k))))
  side_all after i h e =
      e ∙ ap (λ m. spread l to (64 * (r * n)) q (λ k. flat (rows m n (f k)))) h ∙ spread-all to (64 * (r * n)) l (r * n) q (λ k. rows r n (f k)) refl (λ k. length-rows r (f k) n)
