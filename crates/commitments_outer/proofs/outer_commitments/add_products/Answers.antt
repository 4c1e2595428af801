use mathlib.Core.Path.{◌≡◌, refl, ◌∙◌, ap}
use Prim.Native.Nat.{ℕ, ◌+◌, ◌*◌}
use native.Mathlib.Omega.{arith}
use Rattle.math.specs.lists.Table.{table}
use Rattle.math.specs.lists.Part.{splice}
use Rattle.spec_leaves.specs.Rq.{Element}
use Rattle.spec_leaves.specs.Ring.{element}
use Rattle.ring_inner_product.specs.Run.{run}
use Rattle.spec_protocol.specs.Formulas.{◌⊕◌, dot, flat}
use Rattle.spec_protocol.proofs.Stored.{stored-none}
use Rattle.ring_rq_matrix.proofs.Word.{stands_for, words_of-sum}
use Rattle.ring_rq_matrix.proofs.Fill.{length_filled, fill_next}
use Rattle.commitments_outer.proofs.Added.{run-rest}
use Rattle.commitments_outer.proofs.outer_commitments.add_products.Goals as goal

pub inner_product-product-requires : goal.inner_product-product-requires
inner_product-product-requires c =
    let p = c.requires in
    (omega (arith, p.0.within c.loop-k.k (omega arith), p.3.few), omega (arith, p.3.few), p.3)

pub overflow_add-row : goal.overflow_add-row
overflow_add-row c = omega (
  arith,
  c.requires.0.within
      c.loop-k.k (omega arith),
  c.requires.0.near,
)

pub loop-k-preserved : goal.loop-k-preserved
loop-k-preserved c =
    let s = c.args in
    let l = c.loop-k in
    let d : ℕ → Element = λ p. dot s.n (run s.matrix.now p 64) (run s.v.now 0 64) in
    let f : ℕ → Element = λ k. run s.out.now s.out_at 64 k ⊕ d (s.m_at + s.m_step * k) in
    let here = ap element c.load.ensures ∙ run-rest s.out.now l.out s.out_at l.k l.place f l.invariant.3 l.invariant.2 in
    let product = stands_for c.inner_product-product.result.coeffs (d l.row)
    c.inner_product-product.ensures ∙ ap d l.invariant.1 in
    let new = words_of-sum c.add-sum.result.coeffs c.load.result.coeffs
    c.inner_product-product.result.coeffs (run s.out.now s.out_at 64 l.k) (d (s.m_at + s.m_step * l.k))
    c.add-sum.ensures here product in
    let stored = c.store.ensures in (
      omega arith,
      omega arith,
      omega arith,
      fill_next s.out.now s.out_at _ _ _ l.k l.place f l.invariant.3 l.invariant.2 new stored,
      length_filled _ _ _ _ stored ∙ l.invariant.4,
    )

pub returns : goal.returns
returns c =
    let s = c.args in
    let l = c.loop-k in
    let done : l.k ≡ s.rows = omega arith in
    l.invariant.3 ∙ ap (λ k. splice s.out.now s.out_at
    (flat (table k (λ k. run s.out.now s.out_at 64 k ⊕ dot s.n (run s.matrix.now (s.m_at + s.m_step * k) 64) (run s.v.now 0 64))))) done

pub loop-k-init : goal.loop-k-init
loop-k-init c = (omega arith, omega arith, omega arith, stored-none _ _ _, refl)
