-- `phi_double_prime` meets its contract.
use mathlib.Core.Path.{◌∙◌, ap}
use native.Mathlib.Omega.{arith}
use Rattle.math.specs.lists.Part.{splice}
use Rattle.core_workspace.proofs.Ready.{ready-sized}
use Rattle.core_workspace.proofs.Steps.{φ''_requires, φ''-made}
use Rattle.core_workspace.proofs.phi_double_prime.Goals as goal

pub phi_double_prime-requires : goal.phi_double_prime-requires
phi_double_prime-requires c =
    φ''_requires c.args.job.now c.args.randomness.now c.args.scratch.now c.args.params c.args.regions c.requires.0 _ _ _ _ c.requires.1
    c.of_job.ensures c.of_randomness.ensures c.of_randomness-2.ensures c.of_randomness-3.ensures

pub returns : goal.returns
returns c =
    c.phi_double_prime.ensures
    ∙ ap (splice c.args.scratch.now c.args.regions.phi2)
    (φ''-made c.args.job.now c.args.randomness.now c.args.scratch.now c.args.params c.args.regions c.requires.0 _ _ _ _
    c.of_job.ensures c.of_randomness.ensures
    c.of_randomness-2.ensures c.of_randomness-3.ensures)
