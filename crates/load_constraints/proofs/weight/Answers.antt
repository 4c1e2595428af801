-- `weight` meets its contract.
use mathlib.Core.Path.{sym, ap, ◌∙◌}
use mathlib.Core.Bool.{cond}
use Prim.Native.Nat.{◌+◌}
use native.Mathlib.Omega.{arith}
use borrow.Author.Tests.{lt-ltb, le-ltb}
use Rattle.spec_leaves.specs.Ring.{words}
use Rattle.spec_protocol.specs.Formulas.{◌⊕◌}
use Rattle.ring_rq_matrix.specs.Region.{gram}
use Rattle.ring_rq_matrix.proofs.Place.{rows-within}
use Rattle.ring_rq_matrix.proofs.Word.{stands_for, words_of-sum, words_of-vectors}
use Rattle.load_constraints.proofs.weight.Goals as goal

pub inner_product-product-requires : goal.inner_product-product-requires
inner_product-product-requires c =
    let s = c.args in
    omega (arith, rows-within s.i (s.i + 1) s.n (omega arith), rows-within s.j (s.i + 1) s.n (omega arith))

pub returns-then-j-i : goal.returns-then-j-i
returns-then-j-i c =
    let s = c.args in
    let i = c.vector_at-s_i in
    let j = c.vector_at-s_j in
    let g = gram s.s.now s.s_at s.n s.i s.j in
    let product = stands_for _ g (words_of-vectors _ s.s.now s.s_at s.i i.result s.s.now s.s_at s.j j.result s.n
    c.inner_product-product.ensures i.ensures j.ensures) in
    words_of-sum _ _ _ g g c.add.ensures product product ∙ ap (λ b. words (cond b (g ⊕ g) g)) (sym (lt-ltb s.j s.i (omega arith)))

pub returns-else-j-i : goal.returns-else-j-i
returns-else-j-i c =
    let s = c.args in
    let i = c.vector_at-s_i in
    let j = c.vector_at-s_j in
    let g = gram s.s.now s.s_at s.n s.i s.j in
    words_of-vectors _ s.s.now s.s_at s.i i.result s.s.now s.s_at s.j j.result s.n c.inner_product-product.ensures i.ensures j.ensures
    ∙ ap (λ b. words (cond b (g ⊕ g) g)) (sym (le-ltb s.j s.i (omega arith)))
