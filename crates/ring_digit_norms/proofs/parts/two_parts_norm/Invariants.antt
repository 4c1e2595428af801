-- `two_parts_norm` meets its contract. The invariant: the norms of the two parts of the first m elements are summed.
use mathlib.Core.Path.{◌≡◌}
use Prim.Native.Nat.{◌*◌, ◌^◌, ◌≤◌}
use Rattle.math.specs.lists.Sum.{Σ}
use Rattle.ring_inner_product.specs.Run.{run}
use Rattle.spec_protocol.specs.Conditions.{two_parts_norm}
use Rattle.ring_digit_norms.proofs.parts.two_parts_norm.Given as goal

abbrev pub invariant-loop-m : goal.invariant-loop-m
invariant-loop-m l =
    (l.m ≤ l.count)
    × (l.total ≡ Σ l.m (λ k. two_parts_norm l.base (run l.from l.at 64 k)))
    × (l.total ≤ 128 * l.m * 2 ^ 64)
