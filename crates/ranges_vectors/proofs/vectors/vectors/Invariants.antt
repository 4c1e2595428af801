-- `vectors` meets its contract. The invariant: the answers of the first i vectors stand in their places, and the others are unused.
use mathlib.Core.Path.{◌≡◌}
use mathlib.Core.List.{List}
use Prim.Native.Nat.{ℕ, ◌*◌}
use lib.IntN.{ℤ}
use Rattle.math.specs.lists.Table.{padded}
use Rattle.spec_protocol.specs.Ranges.{unused}
use Rattle.ranges_vectors.specs.declared.vectors.RangeNorms.{RangeNorms}
use Rattle.ranges_vectors.specs.Vectors.{range_norms, worked}
use Rattle.ranges_vectors.proofs.vectors.vectors.Given as goal

-- the answer to vector i
abbrev pub of_vector : (bound : ℕ) (lows highs : List ℤ) (count i : ℕ) → RangeNorms
of_vector bound lows highs count i = range_norms (worked bound lows highs (i * count) count)

abbrev pub invariant-loop-i : goal.invariant-loop-i
invariant-loop-i l =
    (l.out ≡ padded 16 l.i (range_norms unused) (of_vector l.bound l.lows l.highs l.count))
