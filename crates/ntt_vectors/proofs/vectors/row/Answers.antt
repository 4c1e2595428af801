use mathlib.Core.Path.{◌≡◌, refl, ap, ◌∙◌}
use Prim.Native.Nat.{ℕ, ◌+◌, ◌*◌, ◌≤◌}
use native.Mathlib.Omega.{arith}
use Rattle.math.specs.lists.Table.{table}
use Rattle.math.specs.lists.Part.{splice}
use Rattle.spec_leaves.specs.Rq.{Element}
use Rattle.spec_leaves.specs.Ring.{words}
use Rattle.spec_protocol.specs.Formulas.{flat}
use Rattle.spec_protocol.proofs.Stored.{stored-none}
use Rattle.ring_rq_matrix.proofs.Place.{rows-within}
use Rattle.ring_rq_matrix.proofs.Fill.{length_filled, fill_next}
use Rattle.ntt_vectors.specs.NttForm.{ntt_dot, ntt_row}
use Rattle.ntt_vectors.proofs.Laws.{vector-values, values-before, dot_before}
use Rattle.ntt_vectors.proofs.vectors.row.Goals as goal

pub loop-k-init : goal.loop-k-init
loop-k-init c = (omega arith, omega arith, omega arith, stored-none _ _ _, refl)

pub inner_product-e-requires : goal.inner_product-e-requires
inner_product-e-requires c =
    let s = c.args in
    let l = c.loop-k in (
      c.requires.0,
      vector-values l.scratch s.at s.count s.n l.k l.place
          (values-before s.scratch.now l.scratch s.out_at (flat (table l.k (ntt_row s.v.now s.scratch.now s.at s.n))) s.at (s.count * s.n)
          l.invariant.3 (omega arith) c.requires.1) (omega arith) l.invariant.1,
      c.requires.2,
    )

pub overflow_add-place : goal.overflow_add-place
overflow_add-place c =
    let s = c.args in
    omega (arith, rows-within c.loop-k.k s.count s.n (omega arith))

pub loop-k-preserved : goal.loop-k-preserved
loop-k-preserved c =
    let s = c.args in
    let l = c.loop-k in
    let f : ℕ → Element = ntt_row s.v.now s.scratch.now s.at s.n in
    let stored = c.store.ensures in
    let within : s.at + 192 * (l.k * s.n) + 192 * s.n ≤ s.out_at = omega (arith, rows-within l.k s.count s.n (omega arith)) in
    let cell = c.inner_product-e.ensures
    ∙ ap words (ap (λ p. ntt_dot s.v.now 0 l.scratch p s.n) l.invariant.1
    ∙ dot_before s.v.now s.scratch.now l.scratch s.out_at (flat (table l.k f)) l.invariant.3 s.n 0 (s.at + 192 * (l.k * s.n)) within) in (
      omega arith,
      omega arith,
      omega arith,
      fill_next s.scratch.now s.out_at _ _ _ l.k l.to f l.invariant.3 l.invariant.2 cell stored,
      length_filled _ _ _ _ stored ∙ l.invariant.4,
    )

pub returns : goal.returns
returns c =
    let s = c.args in
    let l = c.loop-k in
    let done : l.k ≡ s.count = omega arith in
    l.invariant.3 ∙ ap (λ k. splice s.scratch.now s.out_at (flat (table k (ntt_row s.v.now s.scratch.now s.at s.n)))) done
