use mathlib.Core.Path.{◌≡◌, refl, sym, ap, ap₂, ◌∙◌}
use native.Mathlib.Omega.{arith}
use lib.ListN.{length}
use Rattle.math.specs.lists.Part.{splice}
use Rattle.math.specs.lists.Table.{table}
use Rattle.math.proofs.lists.Splice.{length-splice, splice-nil}
use Rattle.spec_protocol.specs.Layout.{span, sections}
use Rattle.spec_protocol.specs.Load.{drawn, after, state_by}
use Rattle.load_draw.proofs.More.{rule_at, section_at, listed-table, rules-table, room_next, span-more, reached_suc, stored_next}
use Rattle.load_draw.proofs.sections.Goals as goal

pub loop-m-init : goal.loop-m-init
unfolding table drawn after sections span
loop-m-init g c = (sym (splice-nil _ _), refl, refl, omega arith)

pub section-x-requires : goal.section-x-requires
section-x-requires g c = omega (arith, room_next c.args.sections.now c.loop-m.m (omega arith), c.told-sections)

pub overflow_add-place : goal.overflow_add-place
overflow_add-place g c = omega (arith, room_next c.args.sections.now c.loop-m.m (omega arith), c.told-sections)

pub overflow_add-place-in-loop-m : goal.overflow_add-place-in-loop-m
overflow_add-place-in-loop-m g c = omega (arith, room_next c.args.sections.now c.loop-m.m (omega arith), c.told-sections)

pub loop-m-preserved : goal.loop-m-preserved
loop-m-preserved g c =
    let s = c.args in
    let l = c.loop-m in
    let e = c.section-x.ensures in
    let ρ = rule_at s.rules.now in
    let σ = section_at s.sections.now in (
      stored_next s.state ρ σ s.out.now s.at l.m l.out _ l.place l.x l.invariant.0 l.invariant.3 l.invariant.2 e.0,
      ap length e.0 ∙ length-splice _ _ _ ∙ l.invariant.1,
      e.1 ∙ ap (λ x. state_by (ρ l.m) x (σ l.m).count) l.invariant.2 ∙ sym (reached_suc s.state ρ σ l.m),
      omega (arith, span-more s.sections.now l.m),
    )

pub returns : goal.returns
returns g c =
    let s = c.args in
    let l = c.loop-m in
    let ρ = rule_at s.rules.now in
    let σ = section_at s.sections.now in
    let done : l.m ≡ g.row.N = omega arith in
    let rules = ap (λ n. table n ρ) done ∙ sym (rules-table s.rules.now g.row.N c.told-rules) in
    let all = ap (λ n. table n σ) done ∙ sym (listed-table s.sections.now g.row.N c.told-sections) in (
      l.invariant.0 ∙ ap₂ (λ r ss. splice s.out.now s.at (sections (drawn s.state r ss))) rules all,
      l.invariant.2 ∙ ap₂ (after s.state) rules all,
    )
