-- `labrador_load_needs` meets its contract.
use Rattle.load_needs.specs.Given.{given}
use Rattle.load_needs.proofs.Refusals.{ready}
use Rattle.labrador.proofs.LoadNeeds.{load_refused, load_lengths}
use Rattle.labrador.proofs.loads.labrador_load_needs.Goals as goal

pub lengths-needs-requires : goal.lengths-needs-requires
lengths-needs-requires c = let ok = c.in-Ok.ensures in (ready (given c.args.parameters) _ ok.found ok.read).sized

pub returns-in-Ok : goal.returns-in-Ok
returns-in-Ok c = let ok = c.in-Ok.ensures in load_lengths (given c.args.parameters) _ _ ok.found ok.read c.lengths-needs.ensures

pub returns-in-Err : goal.returns-in-Err
returns-in-Err c = load_refused (given c.args.parameters) _ c.in-Err.ensures.found c.from-answer.ensures
