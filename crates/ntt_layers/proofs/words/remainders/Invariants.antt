-- `remainders` meets its contract. The invariant: the first k entries are the definition's, and the later ones zero.
use mathlib.Core.Path.{◌≡◌}
use Prim.Native.Nat.{◌+◌, ◌*◌, ◌%◌, ◌≤◌}
use lib.ListN.{get_or}
use Rattle.math.specs.lists.Table.{padded}
use Rattle.ntt_layers.specs.Fold.{prime}
use Rattle.ntt_layers.proofs.words.remainders.Given as goal

abbrev pub invariant-loop-k : goal.invariant-loop-k
invariant-loop-k l = (l.k ≤ 64) × (l.out ≡ padded 64 l.k 0 (λ i. (get_or l.x i 0 * l.factor + l.offset) % prime l.prime.delta))
