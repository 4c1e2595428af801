-- `add_values` meets its contract. The invariant: the first k sums have the products added, and the later ones are zero.
use mathlib.Core.Path.{◌≡◌}
use Prim.Native.Nat.{◌+◌, ◌*◌, ◌≤◌}
use lib.ListN.{get_or}
use Rattle.math.specs.lists.Table.{padded}
use Rattle.ntt_product.proofs.ntt_form.add_values.Given as goal

abbrev pub invariant-loop-k : goal.invariant-loop-k
invariant-loop-k l = (l.k ≤ 64) × (l.out ≡ padded 64 l.k 0 (λ i. get_or l.s i 0 + get_or l.x i 0 * get_or l.y i 0))
