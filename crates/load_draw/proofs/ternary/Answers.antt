-- `ternary` meets its contract.
use borrow.Author.Rules.{rules}
use Rattle.spec_protocol.specs.Load.{ternary}
use Rattle.load_draw.proofs.ternary.Goals as goal

pub returns : goal.returns
unfolding ternary
returns c = search rules
