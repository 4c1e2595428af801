-- `ntt_is_faster` meets its contract.
use borrow.Author.Tests.{lt-ltb, le-ltb}
use Rattle.core_aggregate_ntt.proofs.mix.ntt_is_faster.Goals as goal

pub returns-then-terms-lt4 : goal.returns-then-terms-lt4
returns-then-terms-lt4 c = simp (lt-ltb _ _ c.if-terms-lt4.true)

pub returns-then-terms-gt96 : goal.returns-then-terms-gt96
returns-then-terms-gt96 c = simp (le-ltb _ _ c.if-terms-lt4.false, lt-ltb _ _ c.if-terms-gt96.true)

pub returns-else-terms-gt96 : goal.returns-else-terms-gt96
returns-else-terms-gt96 c = simp (le-ltb _ _ c.if-terms-lt4.false, le-ltb _ _ c.if-terms-gt96.false)
