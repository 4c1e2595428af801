-- `check_norms` meets its contract.
use mathlib.Core.Path.{◌≡◌, ap, ◌∙◌}
use borrow.Author.Rules.{rules}
use Rattle.spec_leaves.specs.Answer.{of_checked}
use Rattle.spec_protocol.specs.Parameters.{Parameters, parameters}
use Rattle.relation_env_params.specs.Parameters.{parameters_of}
use Rattle.verifier_common.specs.Answers.{projection_norm, norm_sum}
use Rattle.verifier_common.proofs.Sent.{received}
use Rattle.verifier_norms.proofs.Norms.{check_23_is}
use Rattle.verifier_norms.proofs.norm_checks.check_norms.Goals.{After-check_norm_sum, After-check_projection_norm}
use Rattle.verifier_norms.proofs.norm_checks.check_norms.Goals as goal

-- 21, of the job's parameters
answer_21 : (c : After-check_projection_norm)
    → let s = c.args in
    of_checked c.check_projection_norm.result ≡ projection_norm (parameters s.exchange.now.job.now) s.exchange.now.transcript.now
answer_21 c = c.check_projection_norm.ensures ∙ ap (λ (P : Parameters). projection_norm P c.args.exchange.now.transcript.now) c.args.exchange.now.sent.posed.same

-- 23, of the job's parameters
answer_23 : (c : After-check_norm_sum)
    → let s = c.args in
    of_checked c.check_norm_sum.result ≡ norm_sum (parameters s.exchange.now.job.now) s.exchange.now.transcript.now
answer_23 c =
    let T = c.args.exchange.now.transcript.now in
    let d = c.take-digits in
    c.check_norm_sum.ensures
    ∙ check_23_is (parameters_of c.args.exchange.now.params) T d.result d.ensures
    ∙ ap (λ (P : Parameters). norm_sum P T) c.args.exchange.now.sent.posed.same

pub returns-in_err-check_projection_norm : goal.returns-in_err-check_projection_norm
returns-in_err-check_projection_norm c =
    let first = answer_21 (goal.at.returns-in_err-check_projection_norm c).After-check_projection_norm in
    record { result_value = search rules; taken = search rules }

pub returns-in_err-check_constant_terms : goal.returns-in_err-check_constant_terms
returns-in_err-check_constant_terms c =
    let first = answer_21 (goal.at.returns-in_err-check_constant_terms c).After-check_projection_norm in
    record { result_value = search rules; taken = search rules }

pub returns-in_err-check_norm_sum : goal.returns-in_err-check_norm_sum
returns-in_err-check_norm_sum c =
    let first = answer_21 (goal.at.returns-in_err-check_norm_sum c).After-check_projection_norm in
    let third = answer_23 (goal.at.returns-in_err-check_norm_sum c).After-check_norm_sum in
    record { result_value = search rules; taken = search rules }

pub returns : goal.returns
returns c =
    let first = answer_21 (goal.at.returns c).After-check_projection_norm in
    let third = answer_23 (goal.at.returns c).After-check_norm_sum in
    record { result_value = search rules; taken = c.take-digits.ensures }

pub check_projection_norm-requires : goal.check_projection_norm-requires
check_projection_norm-requires c = received c.args.exchange.now.sent.posed

pub take-digits-requires : goal.take-digits-requires
take-digits-requires c = received c.args.exchange.now.sent.posed
