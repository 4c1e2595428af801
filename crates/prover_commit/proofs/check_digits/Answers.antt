-- `check_digits` meets its contract.
use Rattle.prover_commit.proofs.Commitments.{bounded}
use Rattle.prover_commit.proofs.check_digits.Goals as goal

pub returns-then-digits_within : goal.returns-then-digits_within
returns-then-digits_within c = bounded _ _ _ _ c.digits_within.ensures _ c.if-digits_within.true

pub returns-else-digits_within : goal.returns-else-digits_within
returns-else-digits_within c = bounded _ _ _ _ c.digits_within.ensures _ c.if-digits_within.false
