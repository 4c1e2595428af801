-- `check_length` meets its contract.
use native.Mathlib.Omega.{arith}
use Rattle.ranges.proofs.Refused.{other_length, right_length}
use Rattle.ranges.proofs.checks.check_length.Goals as goal

pub returns-then-handed-need : goal.returns-then-handed-need
returns-then-handed-need c = other_length c.args.need c.args.handed c.min.result (let h = c.min.ensures in grind arith) c.if-handed-need.true

pub returns : goal.returns
returns c = right_length c.args.need c.args.handed c.if-handed-need.false
