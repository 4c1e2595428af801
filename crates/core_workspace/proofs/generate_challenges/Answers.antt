-- `generate_challenges` meets its contract.
use mathlib.Core.Path.{◌∙◌, ap₂}
use native.Mathlib.Omega.{arith}
use Rattle.math.specs.lists.Part.{splice}
use Rattle.spec_protocol.specs.Formulas.{flat}
use Rattle.transcript_challenges.specs.Challenges.{challenges}
use Rattle.core_workspace.proofs.generate_challenges.Goals as goal

pub of_randomness-requires : goal.of_randomness-requires
of_randomness-requires c = (c.requires.sized, omega arith)

pub of_randomness-requires-2 : goal.of_randomness-requires-2
of_randomness-requires-2 c = (c.requires.sized, omega arith)

pub generate_challenges-requires : goal.generate_challenges-requires
generate_challenges-requires c =
    (omega (arith, c.requires.signs, c.of_randomness.ensures), omega (arith, c.requires.shuffle, c.of_randomness-2.ensures), c.requires.room)

pub returns : goal.returns
returns c =
    c.generate_challenges.ensures
    ∙ ap₂ (λ a b. splice c.args.scratch.now c.args.regions.challenges (flat (challenges c.args.randomness.now a b c.args.params.multiplicity)))
    c.of_randomness.ensures c.of_randomness-2.ensures
