-- `add_block` meets its contract. The invariant: the first m sums have their inner products added.
use mathlib.Core.Path.{◌≡◌}
use mathlib.Core.Bool.{false}
use Prim.Native.Nat.{◌+◌, ◌*◌, ◌≤◌}
use lib.ListN.{length, get_or}
use Rattle.verify_many_digits.specs.Sums.{BlockAdded}
use Rattle.verify_many_digits.proofs.sums.add_block.Given as goal

abbrev pub invariant-loop-m : goal.invariant-loop-m
invariant-loop-m l =
    (l.m ≤ l.count) × (l.place ≡ l.at + l.m * l.need) × (length l.out ≡ 8) × BlockAdded l.values l.n l.scratch l.m (λ i. get_or l.passes i false) l.at l.need l.sums l.out
