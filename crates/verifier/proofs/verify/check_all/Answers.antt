-- `check_all` meets its contract.
use mathlib.Core.Path.{◌≡◌, ap, ◌∙◌}
use borrow.Author.Rules.{rules}
use Rattle.spec_leaves.specs.Answer.{accepted, of_judged, ◌then◌}
use Rattle.layout_sections.proofs.Then.{goes_on}
use Rattle.core_workspace.proofs.Unchanged.{unchanged_refl}
use Rattle.verifier_common.specs.Answers.{cells_left}
use Rattle.verifier_norms.specs.Order.{norms}
use Rattle.verifier.specs.Order.{rest}
use Rattle.verifier.proofs.Whole.{last, all_after}
use Rattle.verifier.proofs.verify.check_all.Goals as goal

pub returns-in_err-digits : goal.returns-in_err-digits
returns-in_err-digits c =
    let J = c.args.exchange.now.job.now in
    let R = c.args.exchange.now.randomness.now in
    let T = c.args.exchange.now.transcript.now in
    let k : of_judged c.from_residual.result ≡ norms J R T then (rest J R T then last J T) = search rules in
    record { result_value = k ∙ all_after J R T; unchanged = unchanged_refl _ _ }

pub returns-in_err-check_rest : goal.returns-in_err-check_rest
returns-in_err-check_rest c =
    let J = c.args.exchange.now.job.now in
    let R = c.args.exchange.now.randomness.now in
    let T = c.args.exchange.now.transcript.now in
    let k : of_judged c.from_residual-in_err-check_rest.result ≡ norms J R T then (rest J R T then last J T) = search rules in
    record { result_value = k ∙ all_after J R T; unchanged = c.check_rest.ensures.unchanged }

pub returns : goal.returns
returns c =
    let J = c.args.exchange.now.job.now in
    let R = c.args.exchange.now.randomness.now in
    let T = c.args.exchange.now.transcript.now in
    let found = c.in_ok-digits.ensures in record {
      result_value = goes_on found.result_value
          (goes_on c.in_ok-check_rest.ensures.result_value (ap accepted (found.taken.left ∙ ap (λ P. cells_left P T) c.args.exchange.now.sent.posed.same)))
          ∙ all_after J R T;
      unchanged = c.check_rest.ensures.unchanged;
    }

pub check_rest-requires : goal.check_rest-requires
check_rest-requires c = (c.requires, c.in_ok-digits.ensures.taken)
