use mathlib.Core.Path.{refl, ◌∙◌, ap}
use Prim.Native.Nat.{ℕ}
use native.Mathlib.Omega.{arith}
use Rattle.math.specs.lists.Table.{table}
use Rattle.math.specs.lists.Part.{splice}
use Rattle.spec_leaves.specs.Rq.{Element}
use Rattle.spec_protocol.specs.Formulas.{dot, flat}
use Rattle.spec_protocol.proofs.Stored.{rows_none, rows_next, rows_all}
use Rattle.ring_rq_matrix.specs.Region.{vector}
use Rattle.ring_rq_matrix.proofs.Place.{rows-within, run-vector}
use Rattle.ring_rq_matrix.proofs.Fill.{length_filled}
use Rattle.commitments_ajtai.proofs.ajtai_commitment.commit_all.Goals as goal

pub loop-i-init : goal.loop-i-init
loop-i-init c = (omega arith, omega arith, omega arith, rows_none _ _ _ _, refl)

pub matrix_vector-requires : goal.matrix_vector-requires
matrix_vector-requires c =
    let s = c.args in
    let i = c.loop-i.i in
    omega (arith, rows-within i s.r s.n (omega arith), rows-within i s.r s.count (omega arith))

pub overflow_add-start : goal.overflow_add-start
overflow_add-start c = let s = c.args in omega
    (arith, rows-within c.loop-i.i s.r s.n (omega arith))

pub overflow_add-place : goal.overflow_add-place
overflow_add-place c = let s = c.args in omega
    (arith, rows-within c.loop-i.i s.r s.count (omega arith))

pub loop-i-preserved : goal.loop-i-preserved
loop-i-preserved c =
    let s = c.args in
    let l = c.loop-i in
    let e = c.matrix_vector.ensures in
    let f : ℕ → ℕ → Element = λ i k. dot s.n (vector s.matrix.now s.m_at s.n k) (vector s.vectors.now s.at s.n i) in (
      omega arith,
      omega arith,
      omega arith,
      e
          ∙ ap (λ v. splice l.out l.place (flat (table s.count (λ k. dot s.n (vector s.matrix.now s.m_at s.n k) v))))
          (run-vector s.vectors.now s.at s.n l.i l.start l.invariant.1)
          ∙ ap (λ p. splice l.out p (flat (table s.count (f l.i)))) l.invariant.2
          ∙ rows_next s.out.now l.out s.out_at l.i s.count f l.invariant.3,
      length_filled _ _ _ _ e ∙ l.invariant.4,
    )

pub returns : goal.returns
returns c =
    let s = c.args in
    let l = c.loop-i in
    rows_all s.out.now l.out s.out_at l.i s.r s.count (λ i k. dot s.n (vector s.matrix.now s.m_at s.n k) (vector s.vectors.now s.at s.n i))
    l.invariant.3 (omega arith)
