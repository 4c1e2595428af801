-- `crt_all` meets its contract. The invariant: the first k entries are the definition's, and the later ones zero.
use mathlib.Core.Path.{◌≡◌}
use Prim.Native.Nat.{◌≤◌}
use lib.ListN.{get_or}
use Rattle.math.specs.lists.Table.{padded}
use Rattle.ntt_product.specs.Crt.{crt_of}
use Rattle.ntt_product.proofs.crt.crt_all.Given as goal

abbrev pub invariant-loop-k : goal.invariant-loop-k
invariant-loop-k l = (l.k ≤ 64) × (l.out ≡ padded 64 l.k 0 (λ i. crt_of (get_or l.first i 0) (get_or l.second i 0) (get_or l.third i 0)))
