use mathlib.Core.Path.{◌∙◌, ap}
use Prim.Native.Nat.{◌+◌}
use native.Mathlib.Omega.{arith}
use Rattle.layout_sections.proofs.Spans.{item, span_none, span-next, span-room}
use Rattle.layout_sections.proofs.sections.span.Goals as goal

pub loop-section-init : goal.loop-section-init
loop-section-init c = span_none

pub overflow_add-sum : goal.overflow_add-sum
overflow_add-sum c = omega (arith, span-room c.args.sections.now c.loop-section.section-index (omega arith))

pub overflow_add-sum-in-loop-section : goal.overflow_add-sum-in-loop-section
overflow_add-sum-in-loop-section c = omega (arith, span-room c.args.sections.now c.loop-section.section-index (omega arith))

pub loop-section-preserved : goal.loop-section-preserved
loop-section-preserved c =
    let l = c.loop-section in
    let ss = c.args.sections.now in
    ap (λ n. n + (1 + (item ss l.section-index).count)) l.invariant ∙ span-next ss l.section-index (omega arith)
