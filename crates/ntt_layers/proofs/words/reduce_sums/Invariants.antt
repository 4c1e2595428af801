-- `reduce_sums` meets its contract. The invariant: the first k entries are the definition's, and the later ones zero.
use mathlib.Core.Path.{◌≡◌}
use Prim.Native.Nat.{◌≤◌}
use lib.ListN.{get_or}
use Rattle.math.specs.lists.Table.{padded}
use Rattle.ntt_layers.specs.Words.{reduced_sum}
use Rattle.ntt_layers.proofs.words.reduce_sums.Given as goal

abbrev pub invariant-loop-k : goal.invariant-loop-k
invariant-loop-k l = (l.k ≤ 64) × (l.out ≡ padded 64 l.k 0 (λ i. reduced_sum l.prime.delta (get_or l.s i 0)))
