-- `a` meets its contract.
use mathlib.Core.Path.{◌∙◌, ap}
use native.Mathlib.Omega.{arith}
use Rattle.math.specs.lists.Part.{splice}
use Rattle.core_workspace.proofs.Ready.{ready-sized}
use Rattle.core_workspace.proofs.Steps.{a_requires, a-made}
use Rattle.core_workspace.proofs.a.Goals as goal

pub triangle-cells-requires : goal.triangle-cells-requires
triangle-cells-requires c = (ready-sized _ _ _ _ c.requires.0).within.r.1

pub overflow_mul-step : goal.overflow_mul-step
overflow_mul-step c = omega (arith, c.triangle-cells.ensures.1)

pub aggregate-requires : goal.aggregate-requires
aggregate-requires c =
    a_requires c.args.job.now c.args.randomness.now c.args.scratch.now c.args.params c.args.regions c.requires.0 _ _ _ _ c.requires.1 (omega arith)
    c.triangle-cells.ensures.0 c.of_job.ensures c.of_randomness.ensures c.of_randomness-2.ensures

pub returns : goal.returns
returns c =
    c.aggregate.ensures
    ∙ ap (splice c.args.scratch.now c.args.regions.a_or_h)
    (a-made c.args.job.now c.args.randomness.now c.args.scratch.now c.args.params c.args.regions c.requires.0 _ _ _ _ c.requires.2
    c.triangle-cells.ensures.0 c.of_job.ensures
    c.of_randomness.ensures c.of_randomness-2.ensures)
