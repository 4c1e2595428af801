-- `recompose` meets its contract. The invariant: the sum is that of the digits so far with their weights, and the power that of the next digit, both modulo Q.
use mathlib.Core.Path.{◌≡◌}
use Prim.Native.Nat.{◌*◌, ◌%◌, ◌^◌}
use lib.ListN.{get_or}
use Rattle.math.specs.lists.Sum.{Σ}
use Rattle.spec_leaves.specs.Zq.{Q}
use Rattle.api_recompose.proofs.sum.recompose.Given as goal

abbrev pub invariant-loop-digit : goal.invariant-loop-digit
invariant-loop-digit l = (l.sum.0 ≡ Σ l.digit-index (λ k. get_or l.digits k 0 * l.base ^ k) % Q) × (l.power.0 ≡ l.base ^ l.digit-index % Q)
