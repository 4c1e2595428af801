-- `put_sum` meets its contract. The invariant: the first j words of the sum are stored after the count.
use mathlib.Core.Path.{◌≡◌}
use Prim.Native.Nat.{◌+◌}
use lib.ListN.{length, get_or}
use Rattle.math.specs.lists.Table.{table}
use Rattle.math.specs.lists.Part.{splice}
use Rattle.spec_leaves.specs.Zq.{zadd}
use Rattle.shed_sums.proofs.put_sum.Given as goal

abbrev pub invariant-loop-j : goal.invariant-loop-j
invariant-loop-j l =
    let j = l.j in (l.output ≡ splice l.initial.output 1 (table j (λ j. zadd (get_or l.p (1 + j) 0) (get_or l.other (1 + j) 0)))) × (length l.output ≡ length l.initial.output)
