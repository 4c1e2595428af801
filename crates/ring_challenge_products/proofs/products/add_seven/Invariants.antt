-- `add_seven` meets its contract. The invariant: the first k sums have grown.
use mathlib.Core.Path.{◌≡◌}
use Prim.Native.Nat.{◌+◌, ◌≤◌}
use lib.ListN.{length, get_or}
use Rattle.math.specs.lists.Table.{table}
use Rattle.math.specs.lists.Part.{splice}
use Rattle.ring_challenge_products.specs.Sums.{seven_sum}
use Rattle.ring_challenge_products.proofs.products.add_seven.Given as goal

abbrev pub invariant-loop-k : goal.invariant-loop-k
invariant-loop-k l =
    let k = l.k in (k ≤ 64) × (l.sums ≡ splice l.initial.sums 0 (table k (λ k. get_or l.initial.sums k 0 + seven_sum l.e l.a l.b l.c l.d l.p l.q l.s k))) × (length l.sums ≡ length l.initial.sums)
