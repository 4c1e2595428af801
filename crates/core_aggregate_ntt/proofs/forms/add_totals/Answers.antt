use mathlib.Core.Path.{refl, sym, ◌∙◌, ap, ap₂}
use Prim.Native.Nat.{◌+◌, ◌*◌}
use native.Mathlib.Nat.{zero-add}
use native.Mathlib.Omega.{arith}
use lib.ListN.{length}
use Rattle.math.specs.lists.Part.{part, splice}
use Rattle.math.proofs.lists.Splice.{length-splice}
use Rattle.spec_leaves.specs.Rq.{radd}
use Rattle.spec_leaves.specs.Ring.{element}
use Rattle.spec_leaves.proofs.Bridge.{words-element}
use Rattle.spec_protocol.proofs.Stored.{stored-none, stored_next, stored-rest, stored-all}
use Rattle.core_aggregate_psi.proofs.Sums.{words-add-element}
use Rattle.ntt_vectors.specs.Sums.{inverse_from}
use Rattle.ntt_vectors.proofs.SumsLaws.{inverse_from-element}
use Rattle.core_aggregate_ntt.proofs.forms.add_totals.Goals as goal

pub loop-k-preserved : goal.loop-k-preserved
loop-k-preserved c =
    let s = c.args in
    let l = c.loop-k in
    let here = zero-add (64 * l.k) in
    let unchanged = stored-rest _ _ _ l.k _ (0 + 64 * l.k) 64 l.invariant.1 (omega arith) in
    let e = c.add-sum.ensures
    ∙ ap₂ radd
    (c.load.ensures ∙ ap (λ p. part l.totals p 64) (sym here) ∙ unchanged)
    (c.inverse-e.ensures ∙ sym (words-element (inverse_from s.forms.now (192 * l.k)) (inverse_from-element s.forms.now (192 * l.k))))
    ∙ sym (words-add-element (part s.totals.now (0 + 64 * l.k) 64) (element (inverse_from s.forms.now (192 * l.k)))) in
    let w = c.store.ensures ∙ ap (λ p. splice l.totals p c.add-sum.result.coeffs) (sym here) ∙ stored_next _ _ _ l.k _ _ l.invariant.1 e in
    (omega arith, w, ap length w ∙ length-splice _ _ _)

pub returns : goal.returns
returns c = stored-all _ _ _ _ _ _ c.loop-k.invariant.1 (omega arith)

pub loop-k-init : goal.loop-k-init
loop-k-init c = (omega arith, stored-none _ _ _, refl)
