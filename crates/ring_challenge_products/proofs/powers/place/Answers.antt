-- `place` meets its contract.
use mathlib.Core.Path.{ap₂, ◌∙◌}
use Prim.Native.Nat.{◌+◌, ◌-◌}
use native.Mathlib.Omega.{arith}
use borrow.Author.Tests.{eq-eqb, ne_eqb}
use Rattle.ring_challenge_products.specs.Powers.{place}
use Rattle.ring_challenge_products.proofs.powers.place.Goals as goal

pub returns-then-v-eq0 : goal.returns-then-v-eq0
unfolding place
returns-then-v-eq0 c = (simp (eq-eqb _ _ c.if-v-eq0.true), omega arith)

pub returns-else-v-eq0 : goal.returns-else-v-eq0
unfolding place
returns-else-v-eq0 c = (
  ap₂ (λ x y. x - c.args.j + y) c.first.ensures.0 c.twice.ensures.0 ∙ simp (ne_eqb _ _ c.if-v-eq0.false),
  omega arith,
)
