-- `commit` meets its contract.
use mathlib.Core.Path.{◌∙◌}
use Rattle.std.proofs.lemmas.Result.{err_from_is_err_and}
use Rattle.layout_sections.proofs.Then.{goes_on}
use Rattle.admission_slices.proofs.Stages.{stops_at}
use Rattle.core_workspace.proofs.Unchanged.{unchanged_refl}
use Rattle.prover_commit.proofs.Commitments.{witness-checks, first_is}
use Rattle.prover_commit.proofs.commit.Goals as goal

pub check_witness-requires : goal.check_witness-requires
check_witness-requires c = (witness-checks _ _ _ _ _ c.requires).0

pub returns-in_err-check_witness-clause-result_value : goal.returns-in_err-check_witness-clause-result_value
returns-in_err-check_witness-clause-result_value c =
    let f = c.from_residual in
    let p = err_from_is_err_and f.result f.ensures.1 in
    rw (p.1, p.2) (stops_at _ _ c.in_err-check_witness.ensures ∙ first_is _ _ _ _ _ c.requires)

pub returns-in_err-check_witness-clause-unchanged : goal.returns-in_err-check_witness-clause-unchanged
returns-in_err-check_witness-clause-unchanged c = unchanged_refl _ _

pub returns : goal.returns
returns c =
    let e = c.commit_t_and_g.ensures in
    record { result_value = goes_on c.in_ok-check_witness.ensures e.result_value ∙ first_is _ _ _ _ _ c.requires; unchanged = e.unchanged; made = e.made }
