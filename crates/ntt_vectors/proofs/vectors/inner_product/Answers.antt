-- `inner_product` meets its contract.
use native.Mathlib.Omega.{arith}
use Rattle.ntt_vectors.proofs.Laws.{prime-values, dot-words}
use Rattle.ntt_vectors.proofs.vectors.inner_product.Goals as goal

pub value_sums-first-requires : goal.value_sums-first-requires
value_sums-first-requires c =
    let p = c.requires in
    (prime-values _ _ _ p.0 0 _ (omega arith) (omega arith), prime-values _ _ _ p.1 0 _ (omega arith) (omega arith), p.2)

pub value_sums-second-requires : goal.value_sums-second-requires
value_sums-second-requires c =
    let p = c.requires in
    (prime-values _ _ _ p.0 1 _ (omega arith) (omega arith), prime-values _ _ _ p.1 1 _ (omega arith) (omega arith), p.2)

pub value_sums-third-requires : goal.value_sums-third-requires
value_sums-third-requires c =
    let p = c.requires in
    (prime-values _ _ _ p.0 2 _ (omega arith) (omega arith), prime-values _ _ _ p.1 2 _ (omega arith) (omega arith), p.2)

pub returns : goal.returns
returns c =
    let s = c.args in
    dot-words s.x.now s.x_at s.y.now s.y_at s.n _ _ _ _ c.inverse.ensures c.value_sums-first.ensures
    c.value_sums-second.ensures c.value_sums-third.ensures
