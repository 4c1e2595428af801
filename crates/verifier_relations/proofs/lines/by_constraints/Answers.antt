-- `by_constraints` meets its contract.
use mathlib.Core.Path.{◌∙◌, ap}
use native.Mathlib.Nat.{mul-le-mul}
use native.Mathlib.Omega.{arith}
use Rattle.spec_leaves.specs.Ring.{words}
use Rattle.core_workspace.proofs.Ready.{drawn_fewer}
use Rattle.verifier_common.proofs.Sent.{reckoned}
use Rattle.verifier_relations.proofs.Sides.{constraints_require, lines_summed}
use Rattle.verifier_relations.proofs.lines.by_constraints.Goals as goal

pub overflow_mul-step : goal.overflow_mul-step
overflow_mul-step c =
    let w = (reckoned c.args.exchange.now.sent.posed).within in
    omega (arith, mul-le-mul w.r.1 w.n.1)

pub overflow_mul-step-2 : goal.overflow_mul-step-2
overflow_mul-step-2 c =
    let w = (reckoned c.args.exchange.now.sent.posed).within in
    omega (arith, mul-le-mul w.r.1 w.n.1)

pub sum_of_lines-requires : goal.sum_of_lines-requires
sum_of_lines-requires c =
    let a = c.args in
    constraints_require a.exchange.now.job.now a.exchange.now.transcript.now a.exchange.now.params a.regions a.scratch.now c.args.exchange.now.sent.posed c.requires.0
    a.exchange.now.randomness.now _ _ _ _
    (drawn_fewer 7 5 a.exchange.now.job.now a.exchange.now.randomness.now (omega arith) c.args.exchange.now.sent.drawn) c.requires.1.0.0 (omega arith) c.job_at.ensures
    c.randomness_at.ensures c.randomness_at-2.ensures c.transcript_at.ensures

pub returns : goal.returns
returns c =
    let a = c.args in
    c.sum_of_lines.ensures
    ∙ ap words (lines_summed a.exchange.now.job.now a.exchange.now.randomness.now a.exchange.now.transcript.now a.exchange.now.params a.regions a.scratch.now c.requires.0.same c.requires.1.0.0 _ _ _ _
    c.job_at.ensures c.randomness_at.ensures c.randomness_at-2.ensures
    c.transcript_at.ensures c.requires.1.1)
