-- `sign_rank` meets its contract.
use mathlib.Core.Path.{sym, ap, ◌∙◌}
use mathlib.Core.Bool.{cond}
use Prim.Native.Nat.{ℕ}
use Rattle.mistyped_solve.proofs.list.sign_rank.Goals as goal

pub returns-then-is_larger_than_half : goal.returns-then-is_larger_than_half
returns-then-is_larger_than_half c = sym (ap (λ t. cond {A = ℕ} t 0 1) (sym c.is_larger_than_half.ensures ∙ c.if-is_larger_than_half.true))

pub returns-else-is_larger_than_half : goal.returns-else-is_larger_than_half
returns-else-is_larger_than_half c = sym (ap (λ t. cond {A = ℕ} t 0 1) (sym c.is_larger_than_half.ensures ∙ c.if-is_larger_than_half.false))
