use mathlib.Core.Path.{◌≡◌, ◌∙◌, ap}
use Prim.Native.Nat.{◌<◌}
use native.Mathlib.Omega.{arith}
use Rattle.math.specs.lists.Table.{table, padded}
use Rattle.math.proofs.lists.Padded.{padded-none, padded-next}
use Rattle.spec_leaves.specs.Rq.{rzero, digit_row, digit_rows}
use Rattle.ring_rq_digits.proofs.Sizes.{sizes_first, sizes_next, row_is}
use Rattle.ring_rq_digits.proofs.digits.decompose.Goals as goal

pub loop-k-init : goal.loop-k-init
unfolding table rzero
loop-k-init c = (omega arith, sizes_first _ _ _ c.sizes_of-sizes.ensures, padded-none 32 _ _)

pub loop-k-preserved : goal.loop-k-preserved
loop-k-preserved c =
    let l = c.loop-k in
    let taken = c.take_row-taken.ensures in
    let at : l.k < 32 = omega arith in (
      omega arith,
      sizes_next _ _ _ _ _ l.invariant.1 taken.1,
      padded-next 32 rzero _ _ l.k _ l.invariant.2 at (row_is _ _ _ _ _ l.invariant.1 taken.0),
    )

pub returns : goal.returns
unfolding digit_rows
returns c =
    let l = c.loop-k in
    let s = c.args in
    let n : l.k ≡ s.parts = omega arith in
    l.invariant.2 ∙ ap (λ k. padded 32 k rzero (digit_row s.base s.a.coeffs)) n
