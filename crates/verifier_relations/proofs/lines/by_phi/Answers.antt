-- `by_phi` meets its contract.
use mathlib.Core.Path.{◌∙◌, ap}
use native.Mathlib.Omega.{arith}
use Rattle.spec_leaves.specs.Ring.{words}
use Rattle.core_workspace.proofs.Ready.{drawn_fewer}
use Rattle.verifier_common.proofs.Sent.{received}
use Rattle.verifier_relations.proofs.Scratch.{φ-made, φ_leaves-c}
use Rattle.verifier_relations.proofs.Sides.{c-within, φ-within, lines_requires, lines-held}
use Rattle.verifier_relations.proofs.lines.by_phi.Goals as goal

pub phi-requires : goal.phi-requires
phi-requires c =
    (c.requires.0, drawn_fewer 7 5 c.args.exchange.now.job.now c.args.exchange.now.randomness.now (omega arith) c.args.exchange.now.sent.drawn, c.requires.1.1)

pub sum_of_lines-requires : goal.sum_of_lines-requires
sum_of_lines-requires c =
    let a = c.args in
    let w = c.args.exchange.now.sent.posed in
    let m = (φ-made a.exchange.now.job.now a.exchange.now.randomness.now a.exchange.now.params a.regions a.scratch.now c.requires.0 _ c.phi.ensures).ready in
    lines_requires a.exchange.now.transcript.now a.exchange.now.params a.regions c.phi.new.scratch (received w) _
    (c-within a.exchange.now.job.now a.exchange.now.transcript.now a.exchange.now.params a.regions _ w m) (φ-within a.exchange.now.job.now a.exchange.now.transcript.now a.exchange.now.params
    a.regions _ w m) c.transcript_at-z_at.ensures

pub returns : goal.returns
returns c =
    let a = c.args in
    let e = c.phi.ensures in
    let m = φ-made a.exchange.now.job.now a.exchange.now.randomness.now a.exchange.now.params a.regions a.scratch.now c.requires.0 _ e in
    let held = φ_leaves-c a.exchange.now.job.now a.exchange.now.randomness.now a.exchange.now.params a.regions a.scratch.now c.requires.0 _ e c.requires.1.0.0 in record {
      coeffs_value = c.sum_of_lines.ensures
          ∙ ap words (lines-held a.exchange.now.job.now a.exchange.now.randomness.now a.exchange.now.transcript.now a.exchange.now.params a.regions _ c.requires.0.same held _
          c.transcript_at-z_at.ensures m.holds);
      scratch_after = e;
    }
