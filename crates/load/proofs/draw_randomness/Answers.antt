-- `draw_randomness` meets its contract.
use mathlib.Core.Path.{refl, ap}
use mathlib.Core.List.{[], ◌∷◌}
use native.Mathlib.Omega.{arith}
use Rattle.spec_protocol.specs.Layout.{span}
use Rattle.spec_protocol.specs.Load.{randomness_rules}
use Rattle.load_draw.specs.declared.Rule.TheVariants as R
use Rattle.load_draw.specs.Rules.{rules_of}
use Rattle.load.proofs.Places.{table-drawn}
use Rattle.load.proofs.draw_randomness.Goals as goal

pub sections-requires : goal.sections-requires
sections-requires c = let t = c.randomness_sections.ensures in (omega (arith, ap span t.lists), omega (arith, ap span t.lists, t.spans))

pub returns : goal.returns
unfolding rules_of
returns c =
    let s = c.args in
    (table-drawn c.randomness_sections.ensures (R.Word ∷ R.Word ∷ R.Word ∷ R.Word ∷ R.Word ∷ R.Sign ∷ R.Word ∷ [])
    randomness_rules refl s.state s.randomness.now _ 0 _ c.sections.ensures).0
