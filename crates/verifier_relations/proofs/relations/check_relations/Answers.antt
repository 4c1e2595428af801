-- `check_relations` meets its contract.
use Rattle.spec_protocol.specs.Parameters.{parameters}
use Rattle.spec_protocol.specs.Layout.{scratch_need}
use Rattle.core_workspace.proofs.Unchanged.{unchanged_trans}
use Rattle.core_workspace.proofs.Ready.{ready-changed}
use Rattle.verifier_relations.proofs.relations.check_relations.Goals as goal

pub check_aggregated-requires : goal.check_aggregated-requires
check_aggregated-requires c =
    (ready-changed _ _ _ _ c.requires _ c.check_openings.ensures.unchanged.size, c.check_openings.ensures.challenged)

pub returns-clause-unchanged : goal.returns-clause-unchanged
returns-clause-unchanged c =
    unchanged_trans (scratch_need (parameters c.args.exchange.now.job.now)) c.args.scratch.now c.check_openings.new.scratch c.check_aggregated.new.scratch
    c.check_openings.ensures.unchanged c.check_aggregated.ensures.unchanged
