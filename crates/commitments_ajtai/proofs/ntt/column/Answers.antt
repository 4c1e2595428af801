use mathlib.Core.Path.{◌≡◌, refl, ap, ◌∙◌}
use Prim.Native.Nat.{ℕ, ◌+◌, ◌*◌}
use native.Mathlib.Omega.{arith}
use Rattle.spec_leaves.specs.Rq.{Element}
use Rattle.spec_leaves.specs.Ring.{words}
use Rattle.ring_rq_matrix.proofs.Place.{rows-within}
use Rattle.ring_rq_matrix.proofs.Fill.{length_filled}
use Rattle.ntt_vectors.specs.NttForm.{ntt_dot, ntt_row}
use Rattle.ntt_vectors.proofs.Laws.{vector-values, dot-same}
use Rattle.commitments_ajtai.specs.Spread.{spread}
use Rattle.commitments_ajtai.proofs.SpreadLaws.{spread_none, spread-next, spread-before, values_same}
use Rattle.commitments_ajtai.proofs.ntt.column.Goals as goal

pub loop-k-init : goal.loop-k-init
loop-k-init c = (omega arith, omega arith, omega arith, spread_none _ _ _ _, refl)

pub inner_product-e-requires : goal.inner_product-e-requires
inner_product-e-requires c =
    let s = c.args in
    let l = c.loop-k in
    let same = spread-before s.scratch.now l.scratch s.out_at s.step l.k (ntt_row s.v.now s.scratch.now s.at s.n) l.invariant.3 in (
      c.requires.0,
      vector-values l.scratch s.at s.count s.n l.k l.place
          (values_same s.scratch.now l.scratch s.at (s.count * s.n) s.out_at l.invariant.4 same (omega arith) c.requires.1) (omega arith) l.invariant.1,
      omega arith,
    )

pub store-requires : goal.store-requires
store-requires c = omega (arith, c.requires.2.1 c.loop-k.k (omega arith))

pub overflow_add-place : goal.overflow_add-place
overflow_add-place c = let s = c.args in omega
    (arith, rows-within c.loop-k.k s.count s.n (omega arith))

pub overflow_add-to : goal.overflow_add-to
overflow_add-to c = omega (
  arith,
  c.requires.2.1
      c.loop-k.k (omega arith),
)

pub loop-k-preserved : goal.loop-k-preserved
loop-k-preserved c =
    let s = c.args in
    let l = c.loop-k in
    let f : ℕ → Element = ntt_row s.v.now s.scratch.now s.at s.n in
    let same = spread-before s.scratch.now l.scratch s.out_at s.step l.k f l.invariant.3 in
    let stored = c.store.ensures in
    let p = s.at + 192 * (l.k * s.n) in
    let cell = c.inner_product-e.ensures
    ∙ ap words (ap (λ p. ntt_dot s.v.now 0 l.scratch p s.n) l.invariant.1
    ∙ dot-same s.v.now s.v.now 0 0 l.scratch s.scratch.now p p s.n (λ o h. refl) (λ o h. same (p + o) (omega (arith, rows-within l.k s.count s.n (omega arith))))) in (
      omega arith,
      omega arith,
      omega arith,
      spread-next s.scratch.now s.out_at s.step f l.scratch _ _ l.k l.to l.invariant.3 l.invariant.2 cell stored,
      length_filled _ _ _ _ stored ∙ l.invariant.4,
    )

pub returns : goal.returns
returns c =
    let s = c.args in
    let l = c.loop-k in
    let done : l.k ≡ s.count = omega arith in
    l.invariant.3 ∙ ap (λ k. spread s.scratch.now s.out_at s.step k (ntt_row s.v.now s.scratch.now s.at s.n)) done
