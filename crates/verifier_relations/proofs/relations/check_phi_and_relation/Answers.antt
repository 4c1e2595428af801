-- `check_phi_and_relation` meets its contract.
use mathlib.Core.Path.{◌≡◌, ◌∙◌}
use native.Mathlib.Omega.{arith}
use borrow.Author.Rules.{rules}
use Rattle.core_workspace.specs.Aggregated.{a_words}
use Rattle.core_workspace.proofs.Unchanged.{unchanged_refl}
use Rattle.core_workspace.proofs.Ready.{drawn_fewer}
use Rattle.spec_leaves.specs.Answer.{of_checked}
use Rattle.verifier_common.specs.Answers.{phi}
use Rattle.verifier_common.proofs.Sent.{received}
use Rattle.verifier_relations.proofs.Sides.{c-within, phi-held}
use Rattle.verifier_relations.proofs.Scratch.{Made, a-made}
use Rattle.verifier_relations.proofs.relations.check_phi_and_relation.Goals.{After-a, After-check_phi}
use Rattle.verifier_relations.proofs.relations.check_phi_and_relation.Goals as goal

-- 26 of the challenges in the scratch is that of the randomness
phi_is : (c : After-check_phi) → let s = c.args in of_checked c.check_phi.result ≡ phi s.exchange.now.job.now s.exchange.now.randomness.now s.exchange.now.transcript.now
phi_is c =
    let a = c.args in
    c.check_phi.ensures ∙ phi-held a.exchange.now.job.now a.exchange.now.randomness.now a.exchange.now.transcript.now a.exchange.now.params a.regions _ c.requires.sent.0.same c.requires.sent.1.0
    _ c.requires.coeffs_value

-- a is in the scratch
whole : (c : After-a)
    → let s = c.args in
    Made s.exchange.now.job.now s.exchange.now.params s.regions s.scratch.now c.a.new.scratch s.regions.a_or_h (a_words s.exchange.now.job.now s.exchange.now.randomness.now)
whole c =
    a-made c.args.exchange.now.job.now c.args.exchange.now.randomness.now c.args.exchange.now.params c.args.regions c.args.scratch.now c.requires.sent.0 _ c.a.ensures

pub check_phi-requires : goal.check_phi-requires
check_phi-requires c =
    let a = c.args in
    let w = a.exchange.now.sent.posed in
    (received w, c-within a.exchange.now.job.now a.exchange.now.transcript.now a.exchange.now.params a.regions _ w c.requires.sent.0)

pub a-requires : goal.a-requires
a-requires c =
    (c.requires.sent.0, drawn_fewer 7 5 c.args.exchange.now.job.now c.args.exchange.now.randomness.now (omega arith) c.args.exchange.now.sent.drawn, c.requires.sent.1.1)

pub returns-in_err-check_phi : goal.returns-in_err-check_phi
returns-in_err-check_phi c =
    let first = phi_is (goal.at.returns-in_err-check_phi c).After-check_phi in
    record { result_value = search rules; unchanged = unchanged_refl _ _ }

pub returns : goal.returns
returns c =
    let first = phi_is (goal.at.returns c).After-check_phi in
    record { result_value = search rules; unchanged = (whole (goal.at.returns c).After-a).unchanged }

pub check_relation-requires : goal.check_relation-requires
check_relation-requires c =
    let g = (goal.at.check_relation-requires c).After-a in ((whole g).ready, (whole g).holds)
