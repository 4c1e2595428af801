-- `draw_witness` meets its contract.
use mathlib.Core.Path.{refl, ap}
use native.Mathlib.Omega.{arith}
use mathlib.Core.List.{[], ◌∷◌}
use Rattle.spec_protocol.specs.Layout.{span}
use Rattle.spec_protocol.specs.Load.{witness_rules}
use Rattle.load_draw.specs.declared.Rule.TheVariants as R
use Rattle.load_draw.specs.Rules.{rules_of}
use Rattle.load.proofs.Places.{table-drawn}
use Rattle.load.proofs.draw_witness.Goals as goal

pub sections-requires : goal.sections-requires
sections-requires c = let t = c.witness_sections.ensures in (omega (arith, ap span t.lists), omega (arith, ap span t.lists, t.spans))

pub returns : goal.returns
unfolding rules_of
returns c =
    let s = c.args in
    table-drawn c.witness_sections.ensures (R.Ternary ∷ []) witness_rules refl s.state s.witness.now _ 0 _ c.sections.ensures
