-- `one_pass_is_faster` meets its contract.
use mathlib.Core.Path.{◌∙◌}
use borrow.Author.Tests.{lt-ltb, le-ltb}
use Rattle.core_aggregate_ntt.proofs.one_pass.one_pass_is_faster.Goals as goal

pub returns-then-betas-gt32 : goal.returns-then-betas-gt32
returns-then-betas-gt32 c = simp (lt-ltb _ _ c.if-betas-gt32.true)

pub returns-else-betas-gt32 : goal.returns-else-betas-gt32
returns-else-betas-gt32 c = c.ntt_is_faster.ensures ∙ simp (le-ltb _ _ c.if-betas-gt32.false)
