-- `decompose_to` meets its contract.
use Rattle.math.specs.lists.Part.{part}
use Rattle.spec_leaves.specs.Ring.{element}
use Rattle.spec_protocol.specs.Formulas.{digit_element}
use Rattle.ring_rq_vector.proofs.Zeros.{zeros_after}
use Rattle.ring_rq_vector.proofs.digits.decompose_to.Goals as goal

pub returns : goal.returns
returns c =
    let s = c.args in
    let used = c.decompose_used-used in
    zeros_after s.to.now _ _ s.to_at used.result s.parts (digit_element s.base (element (part s.from.now s.at 64)))
    used.ensures.upper_bound.0 used.ensures.upper_bound.1 c.zero.ensures used.ensures.by_index
