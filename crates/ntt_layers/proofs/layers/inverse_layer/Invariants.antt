-- `inverse_layer` meets its contract. The invariant: the first t entries of each half are the definition's, and the others zero.
use mathlib.Core.Path.{◌≡◌}
use Prim.Native.Nat.{◌≤◌}
use Rattle.ntt_layers.specs.Layer.{inverse_layer_at}
use Rattle.ntt_layers.proofs.Halves.{halves}
use Rattle.ntt_layers.proofs.layers.inverse_layer.Given as goal

abbrev pub invariant-loop-t : goal.invariant-loop-t
invariant-loop-t l = (l.t ≤ 32) × (l.out ≡ halves (inverse_layer_at l.prime.delta l.prime.opposite l.w l.at l.y) l.t)
