-- `span` meets its contract. The invariant: the sum is that of the sections so far.
use mathlib.Core.Path.{◌≡◌}
use lib.ListN.{take}
use Rattle.spec_protocol.specs.Layout.{span}
use Rattle.layout_sections.specs.Sections.{listed}
use Rattle.layout_sections.proofs.sections.span.Given as goal

abbrev pub invariant-loop-section : goal.invariant-loop-section
invariant-loop-section l = l.sum ≡ span (listed (take l.section-index l.sections))
