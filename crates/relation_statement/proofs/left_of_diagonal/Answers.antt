use mathlib.Core.Path.{◌≡◌, ap, ◌∙◌}
use Prim.Native.Nat.{◌+◌}
use native.Mathlib.Omega.{arith}
use Rattle.math.specs.lists.Part.{part}
use Rattle.math.specs.algebra.Ops as Ops
use Rattle.spec_leaves.specs.Ring.{words, element}
use Rattle.ring_inner_product.specs.Run.{run}
use Rattle.spec_protocol.specs.Formulas.{◌⊗◌, sum}
use Rattle.ring_rq_matrix.specs.Region.{gram}
use Rattle.ring_rq_matrix.proofs.Place.{rows-within}
use Rattle.ring_rq_matrix.proofs.Word.{stands_for, total-none, total_product-next, words_of-vectors}
use Rattle.relation_statement.proofs.left_of_diagonal.Goals as goal

pub inner_product-product-requires : goal.inner_product-product-requires
inner_product-product-requires c =
    let s = c.args in
    omega (arith, rows-within s.i (s.i + 1) s.n (omega arith), rows-within c.loop-j.j (s.i + 1) s.n (omega arith))

pub overflow_add-s_j : goal.overflow_add-s_j
overflow_add-s_j c =
    let s = c.args in
    omega (arith, rows-within c.loop-j.j (s.i + 1) s.n (omega arith))

pub loop-j-preserved : goal.loop-j-preserved
loop-j-preserved c =
    let s = c.args in
    let l = c.loop-j in
    let s-i = c.vector_at-s_i in
    let cell = ap element c.load.ensures ∙ ap (λ at. element (part s.a.now at 64)) l.invariant.1 in
    let product =
    stands_for _ (gram s.s.now s.s_at s.n s.i l.j)
    (words_of-vectors _ s.s.now s.s_at s.i s-i.result s.s.now s.s_at l.j l.s_j s.n c.inner_product-product.ensures s-i.ensures l.invariant.2) in (
      omega arith,
      omega arith,
      omega arith,
      total_product-next _ _ _ _ _ l.j (run s.a.now s.row 64) (gram s.s.now s.s_at s.n s.i) c.add-next.ensures c.mul.ensures l.invariant.3 cell product,
    )

pub returns : goal.returns
unfolding Ops.dot
returns c =
    let s = c.args in
    let l = c.loop-j in
    let done : l.j ≡ s.i = omega arith in
    l.invariant.3 ∙ ap (λ k. words (sum k (λ j. run s.a.now s.row 64 j ⊗ gram s.s.now s.s_at s.n s.i j))) done

pub loop-j-init : goal.loop-j-init
loop-j-init c = (omega arith, omega arith, omega arith, total-none _ _ c.zero-total.ensures)
