-- `complement` meets its contract. The invariant: `sum` is what the first i words lack of Q.
use mathlib.Core.Path.{◌≡◌}
use Prim.Native.Nat.{◌-◌, ◌*◌, ◌≤◌}
use lib.ListN.{get_or}
use Rattle.math.specs.lists.Sum.{Σ}
use Rattle.ring_digit_products.specs.Small.{lift_q}
use Rattle.ring_digit_products.proofs.small.complement.Given as goal

abbrev pub invariant-loop-i : goal.invariant-loop-i
invariant-loop-i l = (l.i ≤ 64) × (l.sum ≡ Σ l.i (λ j. lift_q - get_or l.x j 0)) × (l.sum ≤ lift_q * l.i)
