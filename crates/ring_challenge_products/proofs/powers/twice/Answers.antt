-- `twice` meets its contract.
use mathlib.Core.Path.{sym, ap, ◌∙◌}
use mathlib.Core.Bool.{cond}
use Prim.Native.Nat.{ℕ}
use native.Mathlib.Omega.{arith}
use borrow.Author.Tests.{eq-eqb, ne_eqb}
use Rattle.ring_challenge_products.proofs.powers.twice.Goals as goal

pub returns-then-size-eq2 : goal.returns-then-size-eq2
returns-then-size-eq2 c = (sym (ap (λ t. cond {A = ℕ} t 256 0) (eq-eqb _ 2 (sym c.size.ensures ∙ c.if-size-eq2.true))), omega arith)

pub returns-else-size-eq2 : goal.returns-else-size-eq2
returns-else-size-eq2 c = (sym (ap (λ t. cond {A = ℕ} t 256 0) (ne_eqb _ 2 (λ e. c.if-size-eq2.false (c.size.ensures ∙ e)))), omega arith)
