-- `store_sums` meets its contract. The invariant: the sums of the first m windows are stored.
use mathlib.Core.Path.{◌≡◌}
use mathlib.Core.Bool.{false}
use Prim.Native.Nat.{◌+◌, ◌*◌, ◌≤◌}
use lib.ListN.{length, get_or}
use Rattle.verify_many_digits.specs.Rows.{stored_sums, SumsLong}
use Rattle.verify_many_digits.proofs.rows.store_sums.Given as goal

abbrev pub invariant-loop-m : goal.invariant-loop-m
invariant-loop-m l =
    (l.m ≤ l.count)
    × (l.place ≡ l.at + l.m * l.need)
    × (l.scratch ≡ stored_sums l.sums (λ i. get_or l.passes i false) l.at l.need l.m l.initial.scratch)
    × (length l.scratch ≡ length l.initial.scratch)
    × SumsLong l.sums l.m
