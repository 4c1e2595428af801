-- `row_sums` meets its contract. The invariant: the sums are those of the first elements of the row.
use mathlib.Core.Path.{◌≡◌}
use mathlib.Core.Bool.{false}
use Prim.Native.Nat.{◌-◌, ◌≤◌}
use lib.ListN.{length, get_or}
use Rattle.verify_many_digits.proofs.SumLaws.{Summed}
use Rattle.verify_many_digits.proofs.sums.row_sums.Given as goal

abbrev pub invariant-loop-done : goal.invariant-loop-done
invariant-loop-done l =
    (l.done ≤ l.width) × (length l.values ≡ 12288) × Summed l.job l.row l.width l.scratch l.count (λ m. get_or l.passes m false) l.at l.need l.done l.sums

abbrev pub decreases-loop-done : goal.decreases-loop-done
decreases-loop-done l = l.width - l.done
