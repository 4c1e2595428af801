-- `fill` meets its contract. The invariant: the first k words are drawn, and x is the state after them.
use mathlib.Core.Path.{◌≡◌}
use lib.ListN.{length}
use Rattle.math.specs.lists.Part.{splice}
use Rattle.spec_protocol.specs.Load.{words_by, state_by}
use Rattle.load_draw.specs.Rules.{rule_of}
use Rattle.load_draw.proofs.fill.Given as goal

abbrev pub invariant-loop-k : goal.invariant-loop-k
invariant-loop-k l =
    (l.out ≡ splice l.initial.out l.at (words_by (rule_of l.rule) l.state l.k)) × (length l.out ≡ length l.initial.out) × (l.x ≡ state_by (rule_of l.rule) l.state l.k)
