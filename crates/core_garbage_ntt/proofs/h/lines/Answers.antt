use mathlib.Core.Path.{refl, ap, ◌∙◌}
use Prim.Native.Nat.{ℕ, ◌+◌, ◌*◌, ◌≤◌}
use native.Mathlib.Omega.{arith}
use lib.ListN.{length, length-replicate}
use Rattle.math.specs.lists.Table.{table}
use Rattle.math.specs.lists.Part.{splice}
use Rattle.spec_leaves.specs.Rq.{Element}
use Rattle.spec_protocol.specs.Formulas.{flat, rows}
use Rattle.spec_protocol.proofs.Flat.{length-flat, length-rows}
use Rattle.spec_protocol.proofs.Stored.{rows_none, rows_next, rows_all}
use Rattle.ring_rq_matrix.proofs.Place.{rows-within}
use Rattle.ring_rq_matrix.proofs.Fill.{length_filled}
use Rattle.ntt_vectors.specs.NttForm.{ntt_words, ntt_row}
use Rattle.ntt_vectors.proofs.Laws.{values-before}
use Rattle.core_garbage_ntt.specs.NttLines.{ntt_line}
use Rattle.core_garbage_ntt.proofs.LineLaws.{line_between}
use Rattle.core_garbage_ntt.proofs.h.lines.Goals as goal

pub loop-i-init : goal.loop-i-init
loop-i-init c = (omega arith, omega arith, omega arith, rows_none _ _ _ _, refl, length-replicate {A = ℕ} 12288 0)

pub line-requires : goal.line-requires
line-requires c =
    let s = c.args in
    let l = c.loop-i in
    let across = rows-within l.i s.r s.r (omega arith) in
    let within = rows-within l.i s.r s.n (omega arith) in (
      values-before s.scratch.now l.scratch s.out_at (flat (rows l.i s.r (ntt_line s.scratch.now s.phi_at s.at s.n))) s.at (s.r * s.n)
          l.invariant.3 (omega arith) c.requires.0,
      (omega arith, omega (arith, across), omega (arith, within), omega arith, omega arith, omega arith),
    )

pub overflow_add-start : goal.overflow_add-start
overflow_add-start c = omega (
  arith,
  rows-within c.loop-i.i
      c.args.r
      c.args.n (omega arith),
)

pub overflow_add-place : goal.overflow_add-place
overflow_add-place c = omega (
  arith,
  rows-within c.loop-i.i
      c.args.r
      c.args.r (omega arith),
)

pub loop-i-preserved : goal.loop-i-preserved
loop-i-preserved c =
    let s = c.args in
    let l = c.loop-i in
    let f : ℕ → ℕ → Element = ntt_line s.scratch.now s.phi_at s.at s.n in
    let made = c.line.ensures.scratch_after in
    let across = rows-within l.i s.r s.r (omega arith) in
    let apart : s.out_at + length (flat (rows l.i s.r f)) ≤ l.start = omega (arith, across, length-flat (rows l.i s.r f), length-rows l.i f s.r) in (
      omega arith,
      omega arith,
      omega arith,
      made
          ∙ ap (λ cells. splice l.scratch l.place (flat cells))
          (line_between s.scratch.now l.scratch s.out_at (flat (rows l.i s.r f)) l.start s.n s.at s.r l.invariant.3 (omega arith) apart)
          ∙ ap (λ p. splice l.scratch l.place (flat (table s.r (ntt_row (ntt_words s.scratch.now p s.n) s.scratch.now s.at s.n)))) l.invariant.1
          ∙ ap (λ p. splice l.scratch p (flat (table s.r (f l.i)))) l.invariant.2
          ∙ rows_next s.scratch.now l.scratch s.out_at l.i s.r f l.invariant.3,
      length_filled _ _ _ _ made ∙ l.invariant.4,
      length_filled _ _ _ _ c.line.ensures.buffer_after ∙ l.invariant.5,
    )

pub returns : goal.returns
returns c =
    let s = c.args in
    let l = c.loop-i in
    rows_all s.scratch.now l.scratch s.out_at l.i s.r s.r (ntt_line s.scratch.now s.phi_at s.at s.n) l.invariant.3 (omega arith)
