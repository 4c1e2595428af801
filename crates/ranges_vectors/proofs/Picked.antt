-- The squares of what is picked from a run of ranges.
use mathlib.Core.Path.{◌≡◌, ap, ◌∙◌}
use mathlib.Core.List.{List}
use Prim.Native.Nat.{ℕ, ◌+◌}
use lib.IntN.{ℤ, pos}
use Rattle.math.specs.lists.Table.{table}
use Rattle.math.specs.lists.Sum.{Σ}
use Rattle.math.proofs.lists.Sum.{Σ_ext}
use Rattle.math.proofs.lists.Table.{length-table, get_or-table}
use Rattle.spec_protocol.specs.Ranges.{number_at, square, norm}
use Rattle.ranges_vectors.specs.Ends.{picked}

-- the norm of a table
pub norm-table : (n : ℕ) (f : ℕ → ℤ) → norm (table n f) ≡ Σ n (λ j. square (f j))
unfolding norm
norm-table n f =
    ap (λ k. Σ k (λ j. square (number_at (table n f) j))) (length-table n f)
    ∙ Σ_ext n (λ j. square (number_at (table n f) j)) (λ j. square (f j)) (λ j h. ap square (get_or-table n f j (pos 0) h))

-- the norm of what is picked
pub norm-picked : (pick : ℤ → ℤ → ℤ) (lows highs : List ℤ) (from count : ℕ)
    → norm (picked pick lows highs from count) ≡ Σ count (λ j. square (pick (number_at lows (from + j)) (number_at highs (from + j))))
unfolding picked
norm-picked pick lows highs from count = norm-table count (λ j. pick (number_at lows (from + j)) (number_at highs (from + j)))
