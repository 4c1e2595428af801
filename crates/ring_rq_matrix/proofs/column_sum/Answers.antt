-- `column_sum` meets its contract.
use native.Mathlib.Omega.{arith}
use Rattle.ring_inner_product.specs.Run.{run}
use Rattle.ring_rq_matrix.proofs.Place.{column-run}
use Rattle.ring_rq_matrix.proofs.Word.{words_of-column}
use Rattle.ring_rq_matrix.proofs.column_sum.Goals as goal

pub inner_product-requires : goal.inner_product-requires
inner_product-requires c =
    let s = c.args in
    (column-run s.t.now s.t_at s.width s.k s.r (omega arith) (omega arith) (omega arith) (omega arith) (omega arith), omega arith)

pub returns : goal.returns
returns c =
    let s = c.args in
    words_of-column _ s.t.now s.t_at s.width s.k s.r (run s.c.now s.c_at 64) c.inner_product.ensures
