-- `ranges::first_wrong` meets its contract. The invariants: the sections so far, and the words of the next before k, are in range.
use mathlib.Core.Path.{◌≡◌}
use Rattle.std.specs.Prelude.{None}
use Rattle.layout_sections.specs.Sections.{listed}
use Rattle.layout_sections.proofs.Search.{Searched, InSection}
use Rattle.layout_sections.proofs.ranges.first_wrong.Given as goal

abbrev pub invariant-loop-k : goal.invariant-loop-k
invariant-loop-k l = (l.found ≡ None) × InSection l.words l.place (listed l.sections) l.section-index l.section.greatest l.end l.k

abbrev pub invariant-sections : goal.invariant-sections
invariant-sections l = (l.found ≡ None) × Searched l.words l.place (listed l.sections) l.at l.section-index
