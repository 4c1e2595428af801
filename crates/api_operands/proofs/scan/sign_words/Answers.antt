-- `sign_words` meets its contract.
use Rattle.std.proofs.Common.{◌∙◌, sym, ap}
use native.Mathlib.Nat.{zero-add}
use Rattle.spec_leaves.specs.Answer.{refused}
use Rattle.api_operands.proofs.Scans.{found, below_position}
use Rattle.api_operands.proofs.scan.sign_words.Goals as goal

pub returns-in-Some : goal.returns-in-Some
returns-in-Some c = ap (refused 8) (sym (zero-add c.in-Some.i)) ∙ ap (found 8 0) (sym c.in-Some.is) ∙ below_position _ _ _ _ _ c.first_not_below.ensures

pub returns-in-None : goal.returns-in-None
returns-in-None c = ap (found 8 0) (sym c.in-None.is) ∙ below_position _ _ _ _ _ c.first_not_below.ensures
