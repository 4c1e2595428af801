-- `next_of` meets its contract.
use Rattle.std.proofs.Common.{le-ltb, lt-ltb}
use Rattle.ring_zq.proofs.digits.next_of.Goals as goal

pub returns-then-base-rem : goal.returns-then-base-rem
returns-then-base-rem c = simp (lt-ltb _ _ c.if-base-rem.true)

pub returns-else-base-rem : goal.returns-else-base-rem
returns-else-base-rem c = simp (le-ltb _ _ c.if-base-rem.false)
