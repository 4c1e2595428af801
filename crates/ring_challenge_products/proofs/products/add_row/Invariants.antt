-- `add_row` meets its contract. The invariant: the sums have grown by the entries from the first 7·g places on.
use Prim.Native.Nat.{◌*◌, ◌≤◌}
use Rattle.ring_challenge_products.specs.Sums.{row_sum, Grown}
use Rattle.ring_challenge_products.proofs.products.add_row.Given as goal

abbrev pub invariant-loop-g : goal.invariant-loop-g
invariant-loop-g l = (l.g ≤ 6) × Grown l.initial.sums l.sums (row_sum l.powers l.at l.e (7 * l.g))
