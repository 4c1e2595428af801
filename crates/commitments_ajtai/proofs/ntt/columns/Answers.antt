use mathlib.Core.Path.{◌∙◌}
use mathlib.Core.Logic.{inl}
use Prim.Native.Nat.{ℕ, ◌*◌}
use native.Mathlib.Omega.{arith}
use lib.ListN.{length-replicate}
use Rattle.spec_leaves.specs.Rq.{Element}
use Rattle.ring_rq_matrix.proofs.Place.{rows-within}
use Rattle.ring_rq_matrix.proofs.Fill.{length_filled}
use Rattle.ntt_vectors.proofs.Laws.{ntt_form-values}
use Rattle.commitments_ajtai.specs.Spread.{ntt_t}
use Rattle.commitments_ajtai.proofs.SpreadLaws.{values_same}
use Rattle.commitments_ajtai.proofs.ColumnLaws.{columns_none, columns_next, columns_all}
use Rattle.commitments_ajtai.proofs.NttColumns.{column_is}
use Rattle.commitments_ajtai.proofs.ntt.columns.Goals as goal

pub loop-k-init : goal.loop-k-init
loop-k-init c = (omega arith, omega arith, omega arith, columns_none _ _ _ _ _ (omega arith), length-replicate {A = ℕ} 12288 0)

pub to_ntt_form-requires : goal.to_ntt_form-requires
to_ntt_form-requires c =
    let s = c.args in
    (omega (arith, rows-within c.loop-k.k s.width s.n (omega arith)), omega arith)

pub column-requires : goal.column-requires
column-requires c =
    let s = c.args in
    let l = c.loop-k in
    let size = l.invariant.3.size in (
      ntt_form-values _ 0 s.matrix.now l.start s.n c.to_ntt_form.ensures.ntt_form,
      values_same s.scratch.now l.scratch s.at (s.r * s.n) s.out_at size (λ x h. l.invariant.3.outside x (inl h)) (omega arith) c.requires.1,
      (omega arith, λ i h. omega (arith, size, rows-within i s.r s.width h), omega arith, omega arith, omega arith),
    )

pub overflow_add-start : goal.overflow_add-start
overflow_add-start c = omega (
  arith,
  rows-within c.loop-k.k
      c.args.width
      c.args.n (omega arith),
)

pub loop-k-preserved : goal.loop-k-preserved
loop-k-preserved c =
    let s = c.args in
    let l = c.loop-k in
    let f : ℕ → ℕ → Element = ntt_t s.matrix.now s.m_at s.scratch.now s.at s.n in
    let transformed = c.to_ntt_form.ensures.out_after in
    let made = column_is s.matrix.now s.m_at s.scratch.now l.scratch _ l.buffer _ s.at s.n s.r s.width l.k l.start l.place s.out_at
    l.invariant.1 l.invariant.2 transformed (omega arith) (omega arith) (λ x h. l.invariant.3.outside x (inl h)) c.column.ensures in (
      omega arith,
      omega arith,
      omega arith,
      columns_next s.scratch.now s.out_at s.r s.width f (omega arith) l.scratch _ l.k (omega arith) l.invariant.3 made,
      length_filled _ _ _ _ transformed ∙ l.invariant.4,
    )

pub returns : goal.returns
returns c =
    let s = c.args in
    let l = c.loop-k in
    columns_all s.scratch.now s.out_at s.r s.width (ntt_t s.matrix.now s.m_at s.scratch.now s.at s.n) (omega arith) l.scratch l.k (omega arith) l.invariant.3

pub shape_of-scratch : goal.shape_of-scratch
shape_of-scratch c = omega (arith, c.loop-k.invariant.3.size)
