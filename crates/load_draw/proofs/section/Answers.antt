-- `section` meets its contract: the count and the words stored are one run.
use mathlib.Core.Path.{ap, ◌∙◌}
use native.Mathlib.Numerals.{add-one}
use lib.ListN.{set}
use lib.Seq.{sets}
use Rattle.math.specs.lists.Part.{splice}
use Rattle.spec_protocol.specs.Load.{words_by}
use Rattle.load_draw.specs.Rules.{rule_of}
use Rattle.load_draw.proofs.section.Goals as goal

pub returns : goal.returns
unfolding splice
returns c =
    let s = c.args in
    (c.fill.ensures.0 ∙ ap (λ at. sets (set s.out.now s.at s.count) at (words_by (rule_of s.rule) s.state s.count)) (add-one s.at), c.fill.ensures.1)
