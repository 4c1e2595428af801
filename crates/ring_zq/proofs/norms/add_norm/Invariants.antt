-- `add_norm` meets its contract. The invariant: the total is the sum and the first k squares, and it has grown by at most k · 2^64.
use Rattle.std.proofs.Common.{◌≡◌, ◌+◌, ◌*◌, ◌^◌, ◌≤◌, get_or}
use Rattle.math.specs.lists.Sum.{Σ}
use Rattle.spec_leaves.specs.Norm.{square}
use Rattle.ring_zq.proofs.norms.add_norm.Given as goal

abbrev pub invariant-loop-k : goal.invariant-loop-k
invariant-loop-k l =
    (l.k ≤ l.count) × (l.total ≡ l.initial.total + Σ l.k (λ i. square (get_or l.words (l.at + i) 0))) × (l.total ≤ l.initial.total + l.k * 2 ^ 64)
