-- `sign` meets its contract.
use mathlib.Core.Path.{refl}
use Rattle.spec_protocol.specs.Load.{sign}
use Rattle.load_draw.proofs.sign.Goals as goal

pub returns : goal.returns
unfolding sign
returns c = refl
