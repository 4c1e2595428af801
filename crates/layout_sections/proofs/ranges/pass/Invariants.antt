-- `pass` meets its contract. The invariant: the words before `at` are at most the greatest.
use Prim.Native.Nat.{◌-◌}
use Rattle.layout_sections.specs.Sections.{Passed}
use Rattle.layout_sections.proofs.ranges.pass.Given as goal

abbrev pub invariant-loop-at : goal.invariant-loop-at
invariant-loop-at l = Passed l.words l.from l.end l.greatest l.at

abbrev pub decreases-loop-at : goal.decreases-loop-at
decreases-loop-at l = l.end - l.at
