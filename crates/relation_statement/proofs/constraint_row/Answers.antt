-- `constraint_row` meets its contract.
use mathlib.Core.Path.{ap}
use Prim.Native.Nat.{◌+◌}
use native.Mathlib.Omega.{arith}
use Rattle.spec_leaves.specs.Ring.{element}
use Rattle.ring_inner_product.specs.Run.{run}
use Rattle.spec_protocol.specs.Formulas.{◌⊕◌, ◌⊗◌, dot}
use Rattle.ring_rq_matrix.specs.Region.{vector}
use Rattle.ring_rq_matrix.proofs.Place.{rows-within}
use Rattle.ring_rq_matrix.proofs.Word.{stands_for, words_of-sum, words_of_product, words_of-vectors}
use Rattle.relation_statement.proofs.constraint_row.Goals as goal

pub returns : goal.returns
returns c =
    let s = c.args in
    let s-i = c.vector_at-s_i in
    let i = vector s.s.now s.s_at s.n s.i in
    let a = run s.a.now s.row 64 in
    let d = dot s.i a (λ j. dot s.n i (vector s.s.now s.s_at s.n j)) in
    let left = stands_for _ d c.left_of_diagonal-left.ensures in
    let norm =
    stands_for _ (dot s.n i i)
    (words_of-vectors _ s.s.now s.s_at s.i s-i.result s.s.now s.s_at s.i s-i.result s.n c.inner_product-norm.ensures
    s-i.ensures s-i.ensures) in
    let diagonal = words_of_product _ _ _ (a s.i) (dot s.n i i) c.mul-diagonal.ensures (ap element c.load.ensures) norm in
    let twice = words_of-sum _ _ _ d d c.add.ensures left left in
    words_of-sum _ _ _ (d ⊕ d) (a s.i ⊗ dot s.n i i) c.add-2.ensures (stands_for _ (d ⊕ d) twice) (stands_for _ (a s.i ⊗ dot s.n i i) diagonal)

pub inner_product-norm-requires : goal.inner_product-norm-requires
inner_product-norm-requires c = omega (arith, rows-within c.args.i (c.args.i + 1) c.args.n (omega arith))
