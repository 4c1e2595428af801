-- `scale` meets its contract. The invariant: the powers of the primes before, and the first e of this one, are there.
use mathlib.Core.Path.{◌≡◌}
use Prim.Native.Nat.{◌+◌, ◌*◌, ◌≤◌}
use lib.ListN.{length}
use Rattle.math.specs.lists.Table.{padded}
use Rattle.ntt_transform.specs.Roots.{scaled}
use Rattle.ntt_transform.proofs.table.scale.Given as goal

abbrev pub invariant-loop-e : goal.invariant-loop-e
invariant-loop-e l = (l.e ≤ 128) × (l.out ≡ padded 384 (128 * l.i + l.e) 0 scaled) × (length l.out ≡ length l.initial.out)
