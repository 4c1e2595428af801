-- `add_block` meets its contract.
use native.Mathlib.Omega.{arith}
use Rattle.ntt_vectors.proofs.Laws.{ntt_form-values}
use Rattle.load_constraints.proofs.NttProducts.{block_is}
use Rattle.load_constraints.proofs.products.add_block.Goals as goal

pub add_ntt-requires : goal.add_ntt-requires
add_ntt-requires c =
    let s = c.args in
    (c.requires.0, c.requires.1, ntt_form-values _ 0 s.s.now s.s_at s.n c.to_ntt_form.ensures.ntt_form, omega arith)

pub returns : goal.returns
returns c =
    let s = c.args in
    block_is s.job.now s.base s.m s.to s.cell s.n s.count _ s.s.now s.s_at _ (omega arith) c.to_ntt_form.ensures.ntt_form
    (λ j. omega (arith, c.slice_known-1.given j)) c.add_ntt.ensures
