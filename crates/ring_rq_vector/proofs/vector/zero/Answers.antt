use mathlib.Core.Path.{◌≡◌, refl, sym, ◌∙◌, ap}
use native.Mathlib.Omega.{arith}
use lib.ListN.{length}
use Rattle.math.specs.lists.Table.{table}
use Rattle.math.specs.lists.Part.{splice}
use Rattle.math.proofs.lists.Splice.{length-splice}
use Rattle.spec_leaves.specs.Ring.{RqOps}
use Rattle.spec_leaves.proofs.Bridge.{words-nil}
use Rattle.spec_protocol.specs.Formulas.{flat}
use Rattle.spec_protocol.proofs.Stored.{stored-none, stored_next}
use Rattle.ring_rq_vector.proofs.vector.zero.Goals as goal

pub loop-k-init : goal.loop-k-init
loop-k-init c = (omega arith, omega arith, stored-none _ _ _, refl)

pub loop-k-preserved : goal.loop-k-preserved
loop-k-preserved c =
    let s = c.args in
    let l = c.loop-k in
    let none = c.zero in
    let e = c.store.ensures in (
      omega arith,
      omega arith,
      e
          ∙ ap (λ p. splice l.out p none.result.coeffs) l.invariant.1
          ∙ stored_next s.out.now l.out s.at l.k (λ i. RqOps.nil) none.result.coeffs l.invariant.2 (none.ensures ∙ sym words-nil),
      ap length e ∙ length-splice _ _ _ ∙ l.invariant.3,
    )

pub returns : goal.returns
returns c =
    let s = c.args in
    let l = c.loop-k in
    let n : l.k ≡ s.count = omega arith in
    l.invariant.2 ∙ ap (λ k. splice s.out.now s.at (flat (table k (λ i. RqOps.nil)))) n
