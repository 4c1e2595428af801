-- `elements_norm` meets its contract. The invariant: the norms of the first m elements are summed.
use mathlib.Core.Path.{◌≡◌}
use Prim.Native.Nat.{◌*◌, ◌^◌, ◌≤◌}
use Rattle.math.specs.lists.Sum.{Σ}
use Rattle.spec_leaves.specs.Norm.{norm}
use Rattle.spec_leaves.specs.Ring.{words}
use Rattle.ring_inner_product.specs.Run.{run}
use Rattle.ring_digit_norms.proofs.norm.elements_norm.Given as goal

abbrev pub invariant-loop-m : goal.invariant-loop-m
invariant-loop-m l =
    (l.m ≤ l.count) × (l.total ≡ Σ l.m (λ k. norm (words (run l.from l.at 64 k)))) × (l.total ≤ 64 * l.m * 2 ^ 64)
