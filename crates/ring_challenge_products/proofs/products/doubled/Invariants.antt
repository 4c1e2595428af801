-- `doubled` meets its contract. The invariant: the first m entries are the definition's, and the later ones zero.
use mathlib.Core.Path.{◌≡◌}
use Prim.Native.Nat.{◌+◌, ◌≤◌}
use lib.ListN.{get_or}
use Rattle.math.specs.lists.Table.{padded}
use Rattle.ring_challenge_products.proofs.products.doubled.Given as goal

abbrev pub invariant-loop-m : goal.invariant-loop-m
invariant-loop-m l = (l.m ≤ 128) × (l.out ≡ padded 128 l.m 0 (λ j. get_or l.a j 0 + get_or l.a j 0))
