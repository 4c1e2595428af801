-- `judge` meets its contract.
use mathlib.Core.Path.{◌≡◌, refl, ap, ◌∙◌}
use borrow.Author.Rules.{rules}
use Rattle.spec_leaves.specs.Answer.{accepted, of_judged, ◌then◌}
use Rattle.layout_sections.proofs.Then.{goes_on}
use Rattle.verifier_common.specs.Answers.{cells_left}
use Rattle.verifier_norms.specs.Order.{norms}
use Rattle.verifier.specs.Order.{rest}
use Rattle.verifier.proofs.Whole.{last, all_after, sent_of, ready_of, few_regions}
use Rattle.verify_many.proofs.judge.judge.Goals as goal

pub lay_out-regions-requires : goal.lay_out-regions-requires
lay_out-regions-requires c = few_regions _ _ _ _ _ c.requires.verifiable

pub invariant_of-exchange : goal.invariant_of-exchange
invariant_of-exchange c = record { sent = sent_of _ _ _ _ _ c.requires.verifiable }

pub check_rest-requires : goal.check_rest-requires
check_rest-requires c =
    let ready = ready_of _ _ _ _ _ c.requires.verifiable _ c.args.window.now refl c.lay_out-regions.ensures in
    record { sent = (ready, c.in_ok-digits.ensures.taken); rows_done = c.requires.rows_done }

pub returns-in_err-digits : goal.returns-in_err-digits
returns-in_err-digits c =
    let J = c.args.job.now in
    let R = c.args.randomness.now in
    let T = c.args.transcript.now in
    let k : of_judged c.from_residual.result ≡ norms J R T then (rest J R T then last J T) = search rules in
    record { result_value = k ∙ all_after J R T; window_len_unchanged = refl }

pub returns-in_err-check_rest : goal.returns-in_err-check_rest
returns-in_err-check_rest c =
    let J = c.args.job.now in
    let R = c.args.randomness.now in
    let T = c.args.transcript.now in
    let k : of_judged c.from_residual-in_err-check_rest.result ≡ norms J R T then (rest J R T then last J T) = search rules in
    record { result_value = k ∙ all_after J R T; window_len_unchanged = c.check_rest.ensures.unchanged.size }

pub returns : goal.returns
returns c =
    let J = c.args.job.now in
    let R = c.args.randomness.now in
    let T = c.args.transcript.now in
    let found = c.in_ok-digits.ensures in record {
      result_value = goes_on found.result_value
          (goes_on c.in_ok-check_rest.ensures.result_value (ap accepted (found.taken.left ∙ ap (λ P. cells_left P T) (sent_of _ _ _ _ _ c.requires.verifiable).posed.same)))
          ∙ all_after J R T;
      window_len_unchanged = c.check_rest.ensures.unchanged.size;
    }

pub shape_of-window : goal.shape_of-window
shape_of-window c = c.check_rest.ensures.unchanged.size
