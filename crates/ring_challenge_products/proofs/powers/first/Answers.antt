-- `first` meets its contract.
use mathlib.Core.Path.{sym, ap, ◌∙◌}
use mathlib.Core.Bool.{cond}
use Prim.Native.Nat.{ℕ}
use native.Mathlib.Omega.{arith}
use Rattle.ring_challenge_products.proofs.powers.first.Goals as goal

pub returns-then-is_larger_than_half : goal.returns-then-is_larger_than_half
returns-then-is_larger_than_half c = (sym (ap (λ t. cond {A = ℕ} t 128 64) (sym c.is_larger_than_half.ensures ∙ c.if-is_larger_than_half.true)), omega arith, omega arith)

pub returns-else-is_larger_than_half : goal.returns-else-is_larger_than_half
returns-else-is_larger_than_half c = (sym (ap (λ t. cond {A = ℕ} t 128 64) (sym c.is_larger_than_half.ensures ∙ c.if-is_larger_than_half.false)), omega arith, omega arith)
