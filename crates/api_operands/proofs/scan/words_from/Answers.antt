-- `words_from` meets its contract.
use Rattle.std.proofs.Common.{◌∙◌, sym, ap}
use Rattle.api_operands.proofs.Scans.{found, below_position}
use Rattle.api_operands.proofs.scan.words_from.Goals as goal

pub returns-in-Some : goal.returns-in-Some
returns-in-Some c = ap (found 6 c.args.place) (sym c.in-Some.is) ∙ below_position _ _ _ _ _ c.first_not_below.ensures

pub returns-in-None : goal.returns-in-None
returns-in-None c = ap (found 6 c.args.place) (sym c.in-None.is) ∙ below_position _ _ _ _ _ c.first_not_below.ensures
