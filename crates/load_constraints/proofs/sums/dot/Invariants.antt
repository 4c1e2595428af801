-- `dot` meets its contract. The invariant: the sum is that of the first k products, each reduced.
use mathlib.Core.Path.{◌≡◌}
use Prim.Native.Nat.{◌+◌, ◌-◌, ◌*◌, ◌%◌, ◌≤◌}
use lib.ListN.{get_or}
use Rattle.math.specs.lists.Sum.{Σ}
use Rattle.spec_leaves.specs.Zq.{Q}
use Rattle.spec_leaves.specs.Rq.{coeff}
use Rattle.load_constraints.proofs.sums.dot.Given as goal

abbrev pub invariant-loop-k : goal.invariant-loop-k
invariant-loop-k l = (l.k ≤ 64) × (l.sum ≡ Σ l.k (λ i. coeff l.coeffs i * get_or l.words (l.at + i) 0 % Q)) × (l.sum ≤ l.k * Q)
