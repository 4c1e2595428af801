-- `h_cell` meets its contract.
use Rattle.ring_inner_product.specs.Run.{run}
use Rattle.spec_protocol.specs.Formulas.{dot}
use Rattle.ring_rq_matrix.proofs.Word.{stands_for, words_of-sum}
use Rattle.core_garbage_polynomials.proofs.h.h_cell.Goals as goal

pub returns : goal.returns
returns c =
    let s = c.args in
    let first = dot s.n (run s.phi.now s.phi_i 64) (run s.s.now s.s_j 64) in
    let second = dot s.n (run s.phi.now s.phi_j 64) (run s.s.now s.s_i 64) in
    words_of-sum _ _ _ first second c.add.ensures (stands_for _ first c.inner_product-first.ensures) (stands_for _ second c.inner_product-second.ensures)
