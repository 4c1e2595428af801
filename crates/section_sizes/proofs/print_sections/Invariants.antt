-- Each section that is read stands behind the position and within the words.
use Rattle.std.proofs.Common.{◌-◌, ◌≤◌, length}
use Rattle.section_sizes.proofs.print_sections.Given as goal

abbrev pub invariant-loop-place : goal.invariant-loop-place
invariant-loop-place g l = record { within : l.position ≤ length l.words; fewer : l.number ≤ l.position }

abbrev pub decreases-loop-place : goal.decreases-loop-place
decreases-loop-place g l = length l.words - l.position
