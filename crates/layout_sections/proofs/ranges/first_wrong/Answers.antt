use mathlib.Core.Path.{ap, ◌∙◌}
use Prim.Native.Nat.{◌+◌, ◌≤◌}
use native.Mathlib.Omega.{arith}
use lib.ListN.{length}
use Rattle.layout_sections.specs.Sections.{of_found}
use Rattle.layout_sections.proofs.Spans.{item}
use Rattle.layout_sections.proofs.Search.{searched_all, section_ends, section_passed, word_next, word-found, section_next}
use Rattle.layout_sections.proofs.ranges.first_wrong.Goals.{In-sections}
use Rattle.layout_sections.proofs.ranges.first_wrong.Goals as goal

-- the end of the section lies within the words
end_fits : (c : In-sections)
    → c.sections.at + 1 + (item c.args.sections.now c.sections.section-index).count
    ≤ length c.args.words.now
end_fits c =
    let l = c.sections in
    omega (arith, section_ends c.args.words.now c.args.place c.args.sections.now c.requires l.at l.section-index l.invariant.1 (omega arith))

pub overflow_add-end-in-sections : goal.overflow_add-end-in-sections
overflow_add-end-in-sections c = omega (arith, end_fits (goal.at.overflow_add-end-in-sections c).In-sections)

pub pass-passed-requires : goal.pass-passed-requires
pass-passed-requires c = omega (arith, end_fits (goal.at.pass-passed-requires c).In-sections)

pub loop-k-init : goal.loop-k-init
loop-k-init c =
    let l = c.sections in (
      l.invariant.0,
      section_passed _ _ _ (omega arith) l.at l.section-index l.invariant.1
          (λ i h. omega (arith, c.type_inv.words i)) (omega arith) _ c.pass-passed.ensures,
    )

pub loop-k-preserved : goal.loop-k-preserved
loop-k-preserved c =
    let l = c.loop-k in
    (l.invariant.0, word_next _ _ _ (omega arith) _ _ _ l.k l.invariant.1 (omega arith) (omega arith))

pub sections-preserved : goal.sections-preserved
sections-preserved c =
    let l = c.loop-k in
    (l.invariant.0, section_next _ _ _ (omega arith) _ _ _ l.k l.invariant.1 (omega arith))

pub returns-after-sections : goal.returns-after-sections
returns-after-sections c =
    let l = c.sections in
    λ number. ap (of_found number) l.invariant.0 ∙ searched_all _ _ _ (omega arith) l.at l.section-index l.invariant.1 (omega arith) number

pub returns-then-section-words : goal.returns-then-section-words
returns-then-section-words c =
    let l = c.loop-k in
    word-found _ _ _ (omega arith) _ _ _ l.k l.invariant.1 (omega arith) (omega arith)
