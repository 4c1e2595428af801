use native.Mathlib.Omega.{arith}
use Rattle.ring_rq_digits.proofs.Sizes.{sizes_first, sizes_next, sizes_left}
use Rattle.ring_rq_digits.proofs.digits.left_over.Goals as goal

pub loop-k-init : goal.loop-k-init
loop-k-init c = (omega arith, sizes_first _ _ _ c.sizes_of-left.ensures)

pub loop-k-preserved : goal.loop-k-preserved
loop-k-preserved c = (omega arith, sizes_next _ _ _ _ _ c.loop-k.invariant.1 c.take_row-taken.ensures.1)

pub returns : goal.returns
returns c =
    let l = c.loop-k in
    let s = c.args in
    sizes_left s.base s.parts l.k s.a.coeffs l.left (omega arith) l.invariant.1
