-- `spread` meets its contract. The invariant: the first 2t entries are the definition's, and the later ones zero.
use mathlib.Core.Path.{◌≡◌}
use Prim.Native.Nat.{◌*◌, ◌≤◌}
use Rattle.math.specs.lists.Table.{padded}
use Rattle.ntt_layers.specs.Layer.{spread_at}
use Rattle.ntt_layers.proofs.layers.spread.Given as goal

abbrev pub invariant-loop-t : goal.invariant-loop-t
invariant-loop-t l = (l.t ≤ 32) × (l.out ≡ padded 64 (2 * l.t) 0 (spread_at l.prime.delta l.x))
