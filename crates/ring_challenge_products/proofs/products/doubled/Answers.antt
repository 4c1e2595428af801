use mathlib.Core.Path.{refl}
use native.Mathlib.Omega.{arith}
use Rattle.math.proofs.lists.Padded.{padded-none, padded-next, padded_done}
use Rattle.ring_challenge_products.proofs.products.doubled.Goals as goal

pub loop-m-init : goal.loop-m-init
loop-m-init c = (omega arith, padded-none 128 0 _)

pub overflow_add-out : goal.overflow_add-out
overflow_add-out c = omega (arith, c.requires c.loop-m.m (omega arith))

pub loop-m-preserved : goal.loop-m-preserved
loop-m-preserved c = (omega arith, padded-next 128 0 _ _ _ _ c.loop-m.invariant.1 (omega arith) refl)

pub returns : goal.returns
returns c = padded_done 128 0 _ _ _ c.loop-m.invariant.1 (omega arith)
