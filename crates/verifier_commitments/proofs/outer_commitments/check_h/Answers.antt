-- `check_h` meets its contract.
use mathlib.Core.Path.{sym, ap}
use mathlib.Core.Bool.{cond}
use Rattle.spec_leaves.specs.Answer.{fine, refused}
use Rattle.verifier_commitments.proofs.outer_commitments.check_h.Goals as goal

pub returns-then-digits : goal.returns-then-digits
returns-then-digits c = ap (λ t. cond t fine (refused 16 0)) (sym c.if-digits.true)

pub returns-else-digits : goal.returns-else-digits
returns-else-digits c = ap (λ t. cond t fine (refused 16 0)) (sym c.if-digits.false)
