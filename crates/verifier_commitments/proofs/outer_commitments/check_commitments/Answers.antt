-- `check_commitments` meets its contract.
use borrow.Author.Rules.{rules}
use Rattle.core_workspace.proofs.Unchanged.{unchanged_trans}
use Rattle.core_workspace.proofs.Ready.{ready-changed}
use Rattle.verifier_commitments.proofs.outer_commitments.check_commitments.Goals as goal

pub check_second_commitment-requires : goal.check_second_commitment-requires
check_second_commitment-requires c = (c.requires.0, ready-changed _ _ _ c.args.scratch.now c.requires.1 _ c.check_first_commitment.ensures.unchanged.size, c.requires.2)

pub returns-in_err-check_first_commitment : goal.returns-in_err-check_first_commitment
returns-in_err-check_first_commitment c = record { result_value = search rules; unchanged = c.check_first_commitment.ensures.unchanged }

pub returns : goal.returns
returns c =
    record {
      result_value = search rules;
      unchanged = unchanged_trans _ c.args.scratch.now _ _ c.check_first_commitment.ensures.unchanged c.check_second_commitment.ensures.unchanged;
    }
