use Rattle.std.proofs.Common.{◌≡◌, ℕ, ◌+◌, ◌*◌, length, refl, ap, ◌∙◌, ap₂, arith}
use Rattle.math.specs.lists.Table.{table}
use Rattle.math.specs.lists.Part.{part, splice}
use Rattle.math.proofs.lists.Splice.{length-splice}
use Rattle.spec_leaves.specs.Rq.{Element, rconj, radd}
use Rattle.spec_leaves.specs.Ring.{words, element, conj}
use Rattle.spec_protocol.specs.Views.{element_at}
use Rattle.spec_protocol.specs.Formulas.{flat}
use Rattle.spec_protocol.proofs.Stored.{stored-none, stored_next}
use Rattle.core_jl_transpose.proofs.Columns.{conjugated, later}
use Rattle.core_jl_transpose.proofs.conjugate_run.Goals as goal

pub loop-m-preserved : goal.loop-m-preserved
loop-m-preserved c =
    let s = c.args in
    let l = c.loop-m in
    let place = s.at + 64 * l.m in
    let g : ℕ → Element = λ q. conj (element_at s.out.now s.at q) in
    let coeffs =
    c.conjugate_automorphism.ensures
    ∙ ap rconj (c.add-reduced.ensures ∙ ap₂ radd c.load.ensures c.zero.ensures)
    ∙ conjugated (part l.out place 64)
    ∙ ap (λ p. words (conj (element p))) (later s.out.now l.out s.at l.m g l.invariant.1) in
    let stored = c.store.ensures ∙ stored_next s.out.now l.out s.at l.m g _ l.invariant.1 coeffs in
    (omega arith, stored, ap length stored ∙ length-splice _ _ _)

pub returns : goal.returns
returns c =
    let s = c.args in
    let l = c.loop-m in
    let n : l.m ≡ s.n = omega arith in
    l.invariant.1 ∙ ap (λ k. splice s.out.now s.at (flat (table k (λ q. conj (element_at s.out.now s.at q))))) n

pub loop-m-init : goal.loop-m-init
loop-m-init c = (omega arith, stored-none _ _ _, refl)
