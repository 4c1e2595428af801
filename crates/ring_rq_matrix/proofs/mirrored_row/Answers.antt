-- `mirrored_row` meets its contract.
use mathlib.Core.Path.{ap}
use Rattle.spec_leaves.specs.Ring.{element}
use Rattle.ring_inner_product.specs.Run.{run}
use Rattle.spec_protocol.specs.Formulas.{◌⊕◌, ◌⊗◌, dot}
use Rattle.ring_rq_matrix.proofs.Word.{stands_for, words_of-sum, words_of_product}
use Rattle.ring_rq_matrix.proofs.mirrored_row.Goals as goal

pub returns : goal.returns
returns c =
    let s = c.args in
    let x = run s.x.now s.x_at 64 in
    let y = run s.y.now s.y_at 64 in
    let d = dot s.i x y in
    let left = stands_for _ d c.inner_product-left.ensures in
    let diagonal = words_of_product _ _ _ (x s.i) (y s.i) c.mul-diagonal.ensures (ap element c.load.ensures)
    (ap element c.load-2.ensures) in
    let twice = words_of-sum _ _ _ d d c.add.ensures left left in
    words_of-sum _ _ _ (d ⊕ d) (x s.i ⊗ y s.i) c.add-2.ensures (stands_for _ (d ⊕ d) twice) (stands_for _ (x s.i ⊗ y s.i) diagonal)
