-- `constants` meets its contract. The invariant: the first x numbers are stored, and the place stands at the next constraint's element.
use mathlib.Core.Path.{◌≡◌}
use Prim.Native.Nat.{◌+◌, ◌-◌, ◌*◌, ◌≤◌}
use lib.ListN.{length, get_or}
use Rattle.math.specs.lists.Table.{table}
use Rattle.math.specs.lists.Part.{splice}
use Rattle.spec_leaves.specs.Zq.{zadd}
use Rattle.load_constraints.specs.Sums.{dot_at}
use Rattle.load_constraints.proofs.sums.constants.Given as goal

abbrev pub invariant-loop-x : goal.invariant-loop-x
invariant-loop-x l =
    (l.x ≤ l.count)
    × (l.at ≡ l.base + 64 * (l.x * l.m + l.cell))
    × (l.job ≡ splice l.initial.job l.to (table l.x (λ i. zadd (get_or l.initial.job (l.to + i) 0) (dot_at l.coeffs l.initial.job (l.base + 64 * (i * l.m + l.cell))))))
    × (length l.job ≡ length l.initial.job)
