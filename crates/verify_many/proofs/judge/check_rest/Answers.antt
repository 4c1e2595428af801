-- `check_rest` meets its contract.
use mathlib.Core.Path.{◌≡◌, ap, ◌∙◌}
use borrow.Author.Rules.{rules}
use Rattle.math.specs.lists.Part.{splice}
use Rattle.spec_protocol.specs.Parameters.{parameters}
use Rattle.spec_protocol.specs.Many.{row_count, RowsDone}
use Rattle.core_workspace.specs.Aggregated.{c_words}
use Rattle.core_workspace.proofs.Unchanged.{unchanged_trans}
use Rattle.core_workspace.proofs.Ready.{c_requires, c-made}
use Rattle.layout_sections.proofs.Then.{goes_on}
use Rattle.verifier_relations.proofs.Sides.{az-held}
use Rattle.verifier_relations.proofs.Scratch.{Made, challenges-made}
use Rattle.verify_many.proofs.Window.{products_stay, found}
use Rattle.verify_many.proofs.judge.check_rest.Goals.{After-generate_challenges}
use Rattle.verify_many.proofs.judge.check_rest.Goals as goal

-- the challenges are stored
stored : (c : After-generate_challenges)
    → let s = c.args in
    c.generate_challenges.new.scratch ≡ splice s.window.now s.regions.challenges (c_words s.exchange.now.job.now s.exchange.now.randomness.now)
stored c =
    c.generate_challenges.ensures
    ∙ ap (splice c.args.window.now c.args.regions.challenges)
    (c-made c.args.exchange.now.job.now c.args.exchange.now.randomness.now c.args.window.now c.args.exchange.now.params c.args.regions c.requires.sent.0)

-- the challenges in their region
drawn : (c : After-generate_challenges)
    → let s = c.args in
    Made s.exchange.now.job.now s.exchange.now.params s.regions s.window.now c.generate_challenges.new.scratch s.regions.challenges (c_words s.exchange.now.job.now s.exchange.now.randomness.now)
drawn c =
    challenges-made c.args.exchange.now.job.now c.args.exchange.now.randomness.now c.args.exchange.now.params c.args.regions c.args.window.now c.requires.sent.0 _ (stored c)

-- the products after them
products : (c : After-generate_challenges)
    → let s = c.args in
    RowsDone s.exchange.now.job.now s.exchange.now.transcript.now c.generate_challenges.new.scratch (row_count (parameters s.exchange.now.job.now))
products c =
    products_stay c.args.exchange.now.job.now c.args.exchange.now.randomness.now c.args.exchange.now.transcript.now c.args.exchange.now.params c.args.regions c.args.window.now _ c.requires.sent.0
    (stored c) _ c.requires.rows_done

pub check_az-opened-requires : goal.check_az-opened-requires
check_az-opened-requires c =
    let g = (goal.at.check_az-opened-requires c).After-generate_challenges in
    record { posed = (c.args.exchange.now.sent.posed, (drawn g).ready); rows_done = products g }

pub check_u1-u1-requires : goal.check_u1-u1-requires
check_u1-u1-requires c =
    let g = (goal.at.check_u1-u1-requires c).After-generate_challenges in
    record { posed = (c.args.exchange.now.sent.posed, (drawn g).ready.room); rows_done = products g }

pub check_u2-u2-requires : goal.check_u2-u2-requires
check_u2-u2-requires c =
    let g = (goal.at.check_u2-u2-requires c).After-generate_challenges in
    record { posed = (c.args.exchange.now.sent.posed, (drawn g).ready.room); rows_done = products g }

pub check_relations-requires : goal.check_relations-requires
check_relations-requires c =
    let g = (goal.at.check_relations-requires c).After-generate_challenges in
    let a = c.args in
    let held = az-held a.exchange.now.job.now a.exchange.now.randomness.now a.exchange.now.transcript.now a.exchange.now.params a.regions _ c.requires.sent.0.same (drawn g).holds in record {
      sent = ((drawn g).ready, (drawn g).holds);
      opened_value = c.check_az-opened.ensures ∙ held;
    }

pub returns-in_err-check_relations : goal.returns-in_err-check_relations
returns-in_err-check_relations c = record {
  result_value = search rules;
  unchanged = unchanged_trans _ c.args.window.now _ _ (drawn (goal.at.returns-in_err-check_relations c).After-generate_challenges).unchanged c.check_relations.ensures.unchanged;
}

pub returns : goal.returns
returns c =
    let a = c.args in
    let second = c.check_commitments.ensures
    ∙ found a.exchange.now.job.now a.exchange.now.transcript.now a.exchange.now.params a.exchange.now.sent.posed.same a.digits c.requires.sent.1 c.check_u1-u1.result
    c.check_u2-u2.result c.check_u1-u1.ensures c.check_u2-u2.ensures in
    record {
      result_value = goes_on c.in_ok-check_relations.ensures.result_value second;
      unchanged = unchanged_trans _ a.window.now _ _ (drawn (goal.at.returns c).After-generate_challenges).unchanged c.check_relations.ensures.unchanged;
    }

pub generate_challenges-requires : goal.generate_challenges-requires
generate_challenges-requires c = c_requires c.args.exchange.now.job.now c.args.exchange.now.randomness.now c.args.window.now c.args.exchange.now.params
    c.args.regions c.requires.sent.0 c.args.exchange.now.sent.drawn

pub shape_of-window-in_err-check_relations : goal.shape_of-window-in_err-check_relations
shape_of-window-in_err-check_relations c =
    c.check_relations.ensures.unchanged.size ∙ (drawn (goal.at.shape_of-window-in_err-check_relations c).After-generate_challenges).unchanged.size

pub shape_of-window : goal.shape_of-window
shape_of-window c = c.check_relations.ensures.unchanged.size ∙ (drawn (goal.at.shape_of-window c).After-generate_challenges).unchanged.size
