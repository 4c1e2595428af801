-- `check_first_commitment` meets its contract.
use mathlib.Core.Path.{◌≡◌, ap, ◌∙◌}
use borrow.Author.Rules.{rules}
use Rattle.spec_leaves.specs.Answer.{of_result}
use Rattle.spec_protocol.specs.Parameters.{Parameters, parameters}
use Rattle.relation_env_params.specs.Parameters.{parameters_of}
use Rattle.core_workspace.proofs.Unchanged.{unchanged_refl}
use Rattle.verifier_common.specs.Answers.{t_and_g_bounds}
use Rattle.verifier_digits.proofs.Digits.{t_and-g_is}
use Rattle.verifier_commitments.proofs.outer_commitments.check_first_commitment.Goals.{After-check_t_and_g}
use Rattle.verifier_commitments.proofs.outer_commitments.check_first_commitment.Goals as goal

-- 14 and 15, of the job's parameters
bounded : (c : After-check_t_and_g) → let s = c.args in of_result c.check_t_and_g.result ≡ t_and_g_bounds (parameters s.job.now) s.transcript.now
bounded c =
    c.check_t_and_g.ensures ∙ t_and-g_is (parameters_of c.args.params) c.args.transcript.now c.args.digits c.requires.2
    ∙ ap (λ (P : Parameters). t_and_g_bounds P c.args.transcript.now) c.requires.0.same

pub check_u1-requires : goal.check_u1-requires
check_u1-requires c = (c.requires.0, c.requires.1)

pub returns-in_err-check_t_and_g : goal.returns-in_err-check_t_and_g
returns-in_err-check_t_and_g c =
    let found = bounded (goal.at.returns-in_err-check_t_and_g c).After-check_t_and_g in
    record { result_value = search rules; unchanged = unchanged_refl _ _ }

pub returns : goal.returns
returns c =
    let found = bounded (goal.at.returns c).After-check_t_and_g in
    record { result_value = search rules; unchanged = c.check_u1.ensures.unchanged }
