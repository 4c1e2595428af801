-- `check_relations` meets its contract.
use mathlib.Core.Path.{◌≡◌, ◌∙◌}
use borrow.Author.Rules.{rules}
use Rattle.spec_leaves.specs.Answer.{of_checked}
use Rattle.core_workspace.proofs.Unchanged.{unchanged_refl}
use Rattle.verifier_common.specs.Answers.{z_inner}
use Rattle.verifier_common.proofs.Sent.{received}
use Rattle.verifier_relations.proofs.Sides.{c-within, z_inner-held}
use Rattle.verify_many.proofs.judge.check_relations.Goals.{After-check_z_inner}
use Rattle.verify_many.proofs.judge.check_relations.Goals as goal

-- 25 of the challenges in the scratch is that of the randomness
z_inner_is : (c : After-check_z_inner) → let s = c.args in of_checked c.check_z_inner.result ≡ z_inner s.exchange.now.job.now s.exchange.now.randomness.now s.exchange.now.transcript.now
z_inner_is c =
    let s = c.args in
    c.check_z_inner.ensures
    ∙ z_inner-held s.exchange.now.job.now s.exchange.now.randomness.now s.exchange.now.transcript.now s.exchange.now.params s.regions s.window.now c.requires.sent.0.same c.requires.sent.1

pub check_z_inner-requires : goal.check_z_inner-requires
check_z_inner-requires c =
    let s = c.args in
    let w = s.exchange.now.sent.posed in
    (received w, c-within s.exchange.now.job.now s.exchange.now.transcript.now s.exchange.now.params s.regions s.window.now w c.requires.sent.0)

pub returns-in_err-opened : goal.returns-in_err-opened
returns-in_err-opened c = record { result_value = search rules; unchanged = unchanged_refl _ _ }

pub returns-in_err-check_z_inner : goal.returns-in_err-check_z_inner
returns-in_err-check_z_inner c =
    let second = z_inner_is (goal.at.returns-in_err-check_z_inner c).After-check_z_inner in
    record { result_value = search rules; unchanged = unchanged_refl _ _ }

pub returns : goal.returns
returns c =
    let second = z_inner_is (goal.at.returns c).After-check_z_inner in
    record { result_value = search rules; unchanged = c.check_aggregated.ensures.unchanged }

pub check_aggregated-requires : goal.check_aggregated-requires
check_aggregated-requires c = c.requires.sent

pub shape_of-window : goal.shape_of-window
shape_of-window c = c.check_aggregated.ensures.unchanged.size
