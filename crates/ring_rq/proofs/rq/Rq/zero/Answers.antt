-- `Rq::zero` meets its contract.
use mathlib.Core.Path.{refl}
use Rattle.math.specs.lists.Table.{table}
use Rattle.spec_leaves.specs.Rq.{rzero}
use Rattle.ring_rq.proofs.rq.Rq.zero.Goals as goal

pub returns : goal.returns
unfolding table rzero
returns c = refl
