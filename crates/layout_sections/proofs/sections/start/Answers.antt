-- `start` meets its contract.
use mathlib.Core.Path.{◌∙◌, ap}
use Prim.Native.Nat.{◌+◌}
use native.Mathlib.Omega.{arith}
use Rattle.layout_sections.proofs.Spans.{span-room, span-taken, start-listed}
use Rattle.layout_sections.proofs.sections.start.Goals as goal

pub span-requires : goal.span-requires
span-requires c = omega (arith, span-taken c.args.sections.now c.args.m)

pub overflow_add-result : goal.overflow_add-result
overflow_add-result c = omega (arith, span-room c.args.sections.now c.args.m c.requires.0, c.span.ensures)

pub returns : goal.returns
returns c = ap (λ n. n + 1) c.span.ensures ∙ start-listed c.args.sections.now c.args.m c.requires.0
