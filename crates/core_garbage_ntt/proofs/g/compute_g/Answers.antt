use mathlib.Core.Path.{◌≡◌, refl, ap, ◌∙◌}
use Prim.Native.Nat.{ℕ, ◌+◌, ◌*◌, ◌≤◌}
use native.Mathlib.Omega.{arith}
use lib.ListN.{length-replicate}
use Rattle.math.specs.lists.Part.{splice}
use Rattle.spec_protocol.specs.Formulas.{flat, triangle}
use Rattle.ring_rq_matrix.proofs.Place.{rows-within, triangular-suc, triangle-within}
use Rattle.ring_rq_matrix.proofs.Fill.{length_filled, triangle-none, triangle-next}
use Rattle.ntt_vectors.proofs.Laws.{values-before, values-first}
use Rattle.core_garbage_ntt.specs.NttGarbage.{ntt_gram}
use Rattle.core_garbage_ntt.proofs.Laws.{gram-row}
use Rattle.core_garbage_ntt.proofs.g.compute_g.Goals as goal

pub loop-i-init : goal.loop-i-init
loop-i-init c = (omega arith, omega arith, triangle-none _ _ _, refl, length-replicate {A = ℕ} 12288 0)

pub g_row-requires : goal.g_row-requires
g_row-requires c =
    let s = c.args in
    let l = c.loop-i in
    let cells = ntt_gram s.scratch.now s.at s.n in
    let within = rows-within l.i s.r s.n (omega arith) in
    let few : (l.i + 1) * s.n ≤ s.r * s.n = omega (arith, within) in (
      values-first l.scratch s.at (s.r * s.n) ((l.i + 1) * s.n) few
          (values-before s.scratch.now l.scratch s.out_at (flat (triangle l.i cells)) s.at (s.r * s.n) l.invariant.2 (omega arith) c.requires.0),
      (omega (arith, few), omega (arith, triangle-within l.i s.r (omega arith))),
      omega arith,
      omega arith,
      omega arith,
    )

pub loop-i-preserved : goal.loop-i-preserved
loop-i-preserved c =
    let s = c.args in
    let l = c.loop-i in
    let cells = ntt_gram s.scratch.now s.at s.n in
    let made = gram-row s.scratch.now l.scratch _ s.out_at (flat (triangle l.i cells)) s.at s.n s.r l.i l.place l.invariant.2 (omega arith)
    (omega arith) c.g_row.ensures.scratch_after in
    let filled = triangle-next s.scratch.now s.out_at l.scratch _ l.i l.place cells l.invariant.2 l.invariant.1 made in (
      omega arith,
      omega (arith, triangular-suc l.i),
      filled,
      length_filled _ s.scratch.now s.out_at (flat (triangle (l.i + 1) cells)) filled,
      length_filled _ _ _ _ c.g_row.ensures.buffer_after ∙ l.invariant.4,
    )

pub returns : goal.returns
returns c =
    let s = c.args in
    let l = c.loop-i in
    let done : l.i ≡ s.r = omega arith in
    l.invariant.2 ∙ ap (λ k. splice s.scratch.now s.out_at (flat (triangle k (ntt_gram s.scratch.now s.at s.n)))) done

pub overflow_add-place : goal.overflow_add-place
overflow_add-place c = omega (
  arith,
  triangle-within c.loop-i.i
      c.args.r (omega arith),
)
