-- `store_reduced` meets its contract. The invariant: the first j words are stored.
use mathlib.Core.Path.{◌≡◌}
use Prim.Native.Nat.{◌%◌, ◌≤◌}
use lib.ListN.{length, get_or}
use Rattle.math.specs.lists.Table.{table}
use Rattle.math.specs.lists.Part.{splice}
use Rattle.spec_leaves.specs.Zq.{Q}
use Rattle.core_jl.proofs.rows.store_reduced.Given as goal

abbrev pub invariant-loop-j : goal.invariant-loop-j
invariant-loop-j l = let j = l.j in (j ≤ 256) × (l.out ≡ splice l.initial.out l.out_at (table j (λ j. get_or l.sums j 0 % Q))) × (length l.out ≡ length l.initial.out)
