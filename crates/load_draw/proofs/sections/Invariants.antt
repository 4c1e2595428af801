-- `sections` meets its contract. The invariant: the first m sections are stored, and x is the state after them.
use mathlib.Core.Path.{◌≡◌}
use Prim.Native.Nat.{◌+◌}
use lib.ListN.{length}
use Rattle.math.specs.lists.Part.{splice}
use Rattle.math.specs.lists.Table.{table}
use Rattle.spec_protocol.specs.Layout.{span, sections}
use Rattle.load_draw.proofs.More.{rule_at, section_at, drawn_to, reached}
use Rattle.load_draw.proofs.sections.Given as goal

abbrev pub invariant-loop-m : goal.invariant-loop-m
invariant-loop-m g l =
    (l.out ≡ splice l.initial.out l.at (sections (drawn_to l.state (rule_at l.rules) (section_at l.sections) l.m)))
    × (length l.out ≡ length l.initial.out)
    × (l.x ≡ reached l.state (rule_at l.rules) (section_at l.sections) l.m)
    × (l.place ≡ l.at + span (table l.m (section_at l.sections)))
