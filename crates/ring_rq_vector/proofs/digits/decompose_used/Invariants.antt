-- `decompose_used` meets its contract. The invariant: the sizes are those after k digits, and the first k rows are stored.
use mathlib.Core.Path.{◌≡◌}
use Prim.Native.Nat.{◌+◌, ◌*◌, ◌≤◌}
use lib.ListN.{length}
use Rattle.math.specs.lists.Table.{table}
use Rattle.math.specs.lists.Part.{splice}
use Rattle.spec_leaves.specs.Ring.{element}
use Rattle.spec_protocol.specs.Formulas.{flat, digit_element}
use Rattle.ring_rq_digits.proofs.Sizes.{sizes_after}
use Rattle.ring_rq_vector.proofs.digits.decompose_used.Given as goal

abbrev pub invariant-loop-k : goal.invariant-loop-k
invariant-loop-k l =
    (l.k ≤ l.parts)
    × (l.place ≡ l.to_at + 64 * l.k)
    × (l.sizes ≡ sizes_after l.base l.a l.k)
    × (l.to ≡ splice l.initial.to l.to_at (flat (table l.k (digit_element l.base (element l.a)))))
    × (length l.to ≡ length l.initial.to)
