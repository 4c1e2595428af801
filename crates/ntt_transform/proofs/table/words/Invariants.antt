-- `words` meets its contract. The invariant: the first m entries are the definition's, and the later ones zero.
use mathlib.Core.Path.{◌≡◌}
use Prim.Native.Nat.{◌≤◌}
use Rattle.math.specs.lists.Table.{padded}
use Rattle.ntt_transform.specs.Roots.{twiddle}
use Rattle.ntt_transform.proofs.table.words.Given as goal

abbrev pub invariant-loop-m : goal.invariant-loop-m
invariant-loop-m l = (l.m ≤ 1152) × (l.out ≡ padded 1152 l.m 0 twiddle)
