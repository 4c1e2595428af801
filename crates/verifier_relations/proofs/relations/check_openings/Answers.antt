-- `check_openings` meets its contract.
use mathlib.Core.Path.{◌≡◌, ap, ◌∙◌}
use borrow.Author.Rules.{rules}
use Rattle.math.specs.lists.Part.{splice}
use Rattle.spec_leaves.specs.Answer.{of_checked}
use Rattle.core_workspace.specs.Aggregated.{c_words}
use Rattle.core_workspace.proofs.Ready.{c_requires, c-made}
use Rattle.verifier_common.specs.Answers.{az, z_inner}
use Rattle.verifier_common.proofs.Sent.{received}
use Rattle.verifier_relations.proofs.Sides.{c-within, az-held, z_inner-held}
use Rattle.verifier_relations.proofs.Scratch.{Made, challenges-made}
use Rattle.verifier_relations.proofs.relations.check_openings.Goals.{After-check_az, After-generate_challenges}
use Rattle.verifier_relations.proofs.relations.check_openings.Goals as goal

-- the challenges are in the scratch
drawn : (c : After-generate_challenges)
    → let s = c.args in
    Made s.exchange.now.job.now s.exchange.now.params s.regions s.scratch.now c.generate_challenges.new.scratch s.regions.challenges (c_words s.exchange.now.job.now s.exchange.now.randomness.now)
drawn c =
    challenges-made c.args.exchange.now.job.now c.args.exchange.now.randomness.now c.args.exchange.now.params c.args.regions c.args.scratch.now c.requires _
    (c.generate_challenges.ensures
    ∙ ap (splice c.args.scratch.now c.args.regions.challenges)
    (c-made c.args.exchange.now.job.now c.args.exchange.now.randomness.now c.args.scratch.now c.args.exchange.now.params c.args.regions c.requires))

-- 24 of the challenges in the scratch is that of the randomness
az_is : (c : After-check_az) → let s = c.args in of_checked c.check_az.result ≡ az s.exchange.now.job.now s.exchange.now.randomness.now s.exchange.now.transcript.now
az_is c =
    let made = challenges-made c.args.exchange.now.job.now c.args.exchange.now.randomness.now c.args.exchange.now.params c.args.regions c.args.scratch.now c.requires _
    (c.generate_challenges.ensures
    ∙ ap (splice c.args.scratch.now c.args.regions.challenges)
    (c-made c.args.exchange.now.job.now c.args.exchange.now.randomness.now c.args.scratch.now c.args.exchange.now.params c.args.regions c.requires)) in
    c.check_az.ensures ∙ az-held c.args.exchange.now.job.now c.args.exchange.now.randomness.now c.args.exchange.now.transcript.now c.args.exchange.now.params c.args.regions _ c.requires.same
    made.holds

pub generate_challenges-requires : goal.generate_challenges-requires
generate_challenges-requires c = c_requires c.args.exchange.now.job.now c.args.exchange.now.randomness.now c.args.scratch.now
    c.args.exchange.now.params c.args.regions c.requires c.args.exchange.now.sent.drawn

pub check_az-requires : goal.check_az-requires
check_az-requires c = (c.args.exchange.now.sent.posed, (drawn (goal.at.check_az-requires c).After-generate_challenges).ready)

pub check_z_inner-requires : goal.check_z_inner-requires
check_z_inner-requires c =
    let a = c.args in
    let m = drawn (goal.at.check_z_inner-requires c).After-generate_challenges in
    (received a.exchange.now.sent.posed, c-within a.exchange.now.job.now a.exchange.now.transcript.now a.exchange.now.params a.regions _ a.exchange.now.sent.posed m.ready)

pub returns-in_err-check_az : goal.returns-in_err-check_az
returns-in_err-check_az c =
    let m = drawn (goal.at.returns-in_err-check_az c).After-generate_challenges in
    let first = az_is (goal.at.returns-in_err-check_az c).After-check_az in
    record { result_value = search rules; unchanged = m.unchanged; challenged = m.holds }

pub returns : goal.returns
returns c =
    let m = drawn (goal.at.returns c).After-generate_challenges in
    let first = az_is (goal.at.returns c).After-check_az in
    let s = c.args in
    let second : of_checked c.check_z_inner.result ≡ z_inner s.exchange.now.job.now s.exchange.now.randomness.now s.exchange.now.transcript.now =
    c.check_z_inner.ensures ∙ z_inner-held s.exchange.now.job.now s.exchange.now.randomness.now s.exchange.now.transcript.now s.exchange.now.params s.regions _ c.requires.same m.holds in
    record { result_value = search rules; unchanged = m.unchanged; challenged = m.holds }
