-- `check_second_commitment` meets its contract.
use mathlib.Core.Path.{◌≡◌, ap, ◌∙◌}
use borrow.Author.Rules.{rules}
use Rattle.spec_leaves.specs.Answer.{of_result}
use Rattle.spec_protocol.specs.Parameters.{Parameters, parameters}
use Rattle.relation_env_params.specs.Parameters.{parameters_of}
use Rattle.core_workspace.proofs.Unchanged.{unchanged_refl}
use Rattle.verifier_common.specs.Answers.{h_bound}
use Rattle.verifier_digits.proofs.Digits.{h_is}
use Rattle.verifier_commitments.proofs.outer_commitments.check_second_commitment.Goals.{After-check_h}
use Rattle.verifier_commitments.proofs.outer_commitments.check_second_commitment.Goals as goal

-- 16, of the job's parameters
bounded : (c : After-check_h) → let s = c.args in of_result c.check_h.result ≡ h_bound (parameters s.job.now) s.transcript.now
bounded c =
    c.check_h.ensures ∙ h_is (parameters_of c.args.params) c.args.transcript.now c.args.digits c.requires.2
    ∙ ap (λ (P : Parameters). h_bound P c.args.transcript.now) c.requires.0.same

pub check_u2-requires : goal.check_u2-requires
check_u2-requires c = (c.requires.0, c.requires.1)

pub returns-in_err-check_h : goal.returns-in_err-check_h
returns-in_err-check_h c =
    let found = bounded (goal.at.returns-in_err-check_h c).After-check_h in
    record { result_value = search rules; unchanged = unchanged_refl _ _ }

pub returns : goal.returns
returns c =
    let found = bounded (goal.at.returns c).After-check_h in
    record { result_value = search rules; unchanged = c.check_u2.ensures.unchanged }
