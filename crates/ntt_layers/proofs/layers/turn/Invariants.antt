-- `turn` meets its contract. The invariant: the first t entries of the upper half are turned.
use mathlib.Core.Path.{◌≡◌}
use Prim.Native.Nat.{◌≤◌}
use Rattle.math.specs.lists.Table.{table}
use Rattle.math.specs.lists.Part.{splice}
use Rattle.ntt_layers.specs.Layer.{turned}
use Rattle.ntt_layers.proofs.layers.turn.Given as goal

abbrev pub invariant-loop-t : goal.invariant-loop-t
invariant-loop-t l = (l.t ≤ 32) × (l.out ≡ splice l.initial.out 32 (table l.t (turned l.prime.delta l.prime.opposite l.w l.at l.initial.out)))
