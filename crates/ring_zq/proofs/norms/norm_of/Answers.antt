-- `norm_of` meets its contract.
use Rattle.std.proofs.Common.{◌∙◌, zero-add, arith}
use Rattle.ring_zq.proofs.norms.norm_of.Goals as goal

pub returns : goal.returns
returns c = (c.add_norm.ensures.0 ∙ zero-add _, omega arith)
