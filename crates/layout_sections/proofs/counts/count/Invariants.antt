-- `count` meets its contract. The invariant: the sections so far are there.
use Rattle.layout_sections.specs.Sections.{listed}
use Rattle.layout_sections.proofs.Walk.{Reached}
use Rattle.layout_sections.proofs.counts.count.Given as goal

abbrev pub invariant-loop-section : goal.invariant-loop-section
invariant-loop-section l = Reached l.words l.place (listed l.sections) l.at l.section-index
