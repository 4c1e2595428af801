-- `check_rest` meets its contract.
use Rattle.core_workspace.proofs.Unchanged.{unchanged_trans}
use Rattle.core_workspace.proofs.Ready.{ready-changed}
use Rattle.verifier.proofs.verify.check_rest.Goals as goal

pub check_commitments-requires : goal.check_commitments-requires
check_commitments-requires c =
    (c.args.exchange.now.sent.posed, ready-changed _ _ _ c.args.scratch.now c.requires.0 _ c.check_relations.ensures.unchanged.size, c.requires.1)

pub returns-clause-unchanged : goal.returns-clause-unchanged
returns-clause-unchanged c = unchanged_trans _ c.args.scratch.now _ _ c.check_relations.ensures.unchanged c.check_commitments.ensures.unchanged
