use mathlib.Core.Path.{◌∙◌}
use native.Mathlib.Omega.{arith}
use Rattle.layout_sections.proofs.Walk.{reached_none, reached_past, reached_wrong, reached_short, reached_next, reached_all, reached_end}
use Rattle.layout_sections.proofs.counts.count.Goals.{then-at-len+else-wide_usize-section, else-at-len}
use Rattle.layout_sections.proofs.counts.count.Goals as goal

pub loop-section-init : goal.loop-section-init
loop-section-init c = reached_none _ _ _ (omega arith)

pub returns-then-wide_usize-section : goal.returns-then-wide_usize-section
returns-then-wide_usize-section c =
    let l = c.loop-section in
    record { by_index = reached_wrong _ _ _ _ _ l.invariant (omega arith) (omega arith) (λ e. c.if-wide_usize-section.true (c.wide_usize.ensures ∙ e)); ends_at = tt }

pub returns-then-len-at : goal.returns-then-len-at
returns-then-len-at c =
    let l = c.loop-section in
    elim c.if-at-len.branch [
      | then-at-len+else-wide_usize-section w ↦ record { by_index = reached_short _ _ _ _ _ l.invariant (omega arith) (omega arith) (omega arith) (omega arith); ends_at = tt }
      | else-at-len w ↦ record { by_index = reached_past _ _ _ _ _ l.invariant (omega arith) (omega arith); ends_at = tt }
    ]

pub loop-section-preserved : goal.loop-section-preserved
loop-section-preserved c =
    let l = c.loop-section in
    elim c.if-at-len.branch [
      | then-at-len+else-wide_usize-section w ↦ reached_next _ _ _ _ _ l.invariant (omega arith) (omega arith) (omega arith) (omega arith)
      | else-at-len w ↦ absurd (omega arith)
    ]

pub returns : goal.returns
returns c =
    let l = c.loop-section in
    record { by_index = reached_all _ _ _ _ _ l.invariant (omega arith); ends_at = reached_end _ _ _ _ _ l.invariant (omega arith) }
