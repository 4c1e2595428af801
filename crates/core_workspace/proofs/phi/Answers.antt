-- `phi` meets its contract.
use mathlib.Core.Path.{◌∙◌, ap}
use native.Mathlib.Nat.{mul-le-mul}
use native.Mathlib.Omega.{arith}
use Rattle.math.specs.lists.Part.{splice}
use Rattle.core_workspace.proofs.Ready.{ready-sized}
use Rattle.core_workspace.proofs.Steps.{φ_requires, φ-made}
use Rattle.core_workspace.proofs.phi.Goals as goal

pub overflow_mul-width : goal.overflow_mul-width
overflow_mul-width c =
    let w = (ready-sized _ _ _ _ c.requires.0).within in
    omega (arith, mul-le-mul w.r.1 w.n.1)

pub overflow_mul-step : goal.overflow_mul-step
overflow_mul-step c =
    let w = (ready-sized _ _ _ _ c.requires.0).within in
    omega (arith, mul-le-mul w.r.1 w.n.1)

pub aggregate-requires : goal.aggregate-requires
aggregate-requires c =
    φ_requires c.args.job.now c.args.randomness.now c.args.scratch.now c.args.params c.args.regions c.requires.0 _ _ _ c.requires.1 (omega arith)
    c.of_job.ensures c.of_randomness.ensures c.of_randomness-2.ensures

pub returns : goal.returns
returns c =
    c.aggregate.ensures
    ∙ ap (splice c.args.scratch.now c.args.regions.phi)
    (φ-made c.args.job.now c.args.randomness.now c.args.scratch.now c.args.params c.args.regions c.requires.0 _ _ _ c.requires.2
    c.of_job.ensures c.of_randomness.ensures
    c.of_randomness-2.ensures)
