-- `a_double_prime` meets its contract.
use mathlib.Core.Path.{◌∙◌, ap}
use native.Mathlib.Omega.{arith}
use Rattle.math.specs.lists.Part.{splice}
use Rattle.core_workspace.proofs.Ready.{ready-sized}
use Rattle.core_workspace.proofs.Steps.{a''_requires, a''-made}
use Rattle.core_workspace.proofs.a_double_prime.Goals as goal

pub triangle-cells-requires : goal.triangle-cells-requires
triangle-cells-requires c = (ready-sized _ _ _ _ c.requires.0).within.r.1

pub a_double_prime-requires : goal.a_double_prime-requires
a_double_prime-requires c =
    a''_requires c.args.job.now c.args.randomness.now c.args.scratch.now c.args.params c.args.regions c.requires.0 _ _ _ c.requires.1
    c.triangle-cells.ensures.0 c.of_job.ensures c.of_randomness.ensures

pub returns : goal.returns
returns c =
    c.a_double_prime.ensures
    ∙ ap (splice c.args.scratch.now c.args.regions.a2)
    (a''-made c.args.job.now c.args.randomness.now c.args.scratch.now c.args.params c.args.regions c.requires.0 _ _ _
    c.triangle-cells.ensures.0 c.of_job.ensures
    c.of_randomness.ensures)
