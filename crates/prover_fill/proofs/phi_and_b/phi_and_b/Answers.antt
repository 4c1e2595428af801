-- `phi_and_b` meets its contract.
use mathlib.Core.Path.{◌∙◌, ap}
use mathlib.Core.Bool.{cond}
use native.Mathlib.Nat.{mul-le-mul}
use native.Mathlib.Omega.{arith}
use Rattle.math.specs.lists.Part.{splice}
use Rattle.core_workspace.proofs.Ready.{ready-sized}
use Rattle.core_workspace.proofs.Steps.{φ_requires, φ-made}
use Rattle.prover_commit.proofs.Commitments.{b''_fits}
use Rattle.prover_fill.specs.Stored.{with_b''}
use Rattle.prover_fill.proofs.phi_and_b.phi_and_b.Goals as goal

pub overflow_mul-width : goal.overflow_mul-width
overflow_mul-width c =
    let w = (ready-sized _ _ _ _ c.requires.0.ready).within in
    omega (arith, mul-le-mul w.r.1 w.n.1)

pub overflow_mul-step : goal.overflow_mul-step
overflow_mul-step c =
    let w = (ready-sized _ _ _ _ c.requires.0.ready).within in
    omega (arith, mul-le-mul w.r.1 w.n.1)

pub of_job-requires : goal.of_job-requires
of_job-requires c = (ready-sized _ _ _ _ c.requires.0.ready, omega arith)

pub of_randomness-requires : goal.of_randomness-requires
of_randomness-requires c = (ready-sized _ _ _ _ c.requires.0.ready, omega arith)

pub of_randomness-requires-2 : goal.of_randomness-requires-2
of_randomness-requires-2 c = (ready-sized _ _ _ _ c.requires.0.ready, omega arith)

pub phi_and_b-requires : goal.phi_and_b-requires
phi_and_b-requires c = (
  φ_requires c.args.job.now c.args.randomness.now c.args.scratch.now c.args.params c.args.regions c.requires.0.ready _ _ _ c.requires.1
      (omega arith) c.of_job.ensures c.of_randomness.ensures c.of_randomness-2.ensures,
  b''_fits _ _ _ _ _ c.requires.0,
)

pub returns : goal.returns
returns c =
    c.phi_and_b.ensures
    ∙ ap (λ φ. let S = splice c.args.scratch.now c.args.regions.phi φ in cond c.args.with_b (with_b'' S c.args.witness.now c.args.params c.args.regions) S)
    (φ-made c.args.job.now c.args.randomness.now c.args.scratch.now c.args.params c.args.regions c.requires.0.ready _ _ _ c.requires.2
    c.of_job.ensures c.of_randomness.ensures
    c.of_randomness-2.ensures)
