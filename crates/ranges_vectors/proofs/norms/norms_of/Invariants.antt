-- `norms_of` meets its contract. The invariant: the totals are the sums of the first j squares, each square below 2^64.
use mathlib.Core.Path.{◌≡◌}
use Prim.Native.Nat.{◌+◌, ◌*◌, ◌≤◌, ◌^◌}
use Rattle.math.specs.lists.Sum.{Σ}
use Rattle.spec_protocol.specs.Ranges.{number_at, square}
use Rattle.ranges_vectors.specs.Ends.{nearest, farthest}
use Rattle.ranges_vectors.proofs.norms.norms_of.Given as goal

abbrev pub invariant-loop-j : goal.invariant-loop-j
invariant-loop-j l =
    (l.total.least ≡ Σ l.j (λ i. square (nearest (number_at l.lows (l.at + i)) (number_at l.highs (l.at + i)))))
    × (l.total.least ≤ l.j * 2 ^ 64)
    × (l.total.greatest ≡ Σ l.j (λ i. square (farthest (number_at l.lows (l.at + i)) (number_at l.highs (l.at + i)))))
    × (l.total.greatest ≤ l.j * 2 ^ 64)
