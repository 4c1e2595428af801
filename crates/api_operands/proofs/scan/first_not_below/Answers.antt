-- `first_not_below` meets its contract.
use Rattle.api_operands.proofs.Scans.{none_found}
use Rattle.api_operands.proofs.scan.first_not_below.Goals as goal

pub returns-then-all_below : goal.returns-then-all_below
returns-then-all_below c = none_found _ _ (c.all_below.ensures c.if-all_below.true)
