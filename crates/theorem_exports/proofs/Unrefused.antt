-- The struct of what is named is no refusal's.
use mathlib.Core.Path.{◌≡◌, refl}
use Prim.Native.Nat.{ℕ, ◌<◌}
use native.Mathlib.Omega.{arith}
use Rattle.spec_leaves.specs.Answer.{Answer}
use Rattle.spec_leaves.specs.Rq.{Element}
use Rattle.spec_protocol.specs.Views.{Public}
use Rattle.spec_protocol.specs.Conditions.{Named, all_hold, by_21, by_22, by_23, by_27}
use Rattle.api_answers.specs.Calls.{labrador_verdict}

module _ {X : Public} {s : ℕ → ℕ → Element} where
  -- its number is no refusal's, and it has no place
  pub named_unrefused : {a : Answer} → Named X s a → (0 < (labrador_verdict a).number → (labrador_verdict a).number < 21 → ⊥) × ((labrador_verdict a).place ≡ 0)
  named_unrefused (all_hold h) = (λ l g. omega arith, refl)
  named_unrefused (by_21 f) = (λ l g. omega arith, refl)
  named_unrefused (by_22 k f l before bad) = (λ l g. omega arith, refl)
  named_unrefused (by_23 f zeros g) = (λ l g. omega arith, refl)
  named_unrefused (by_27 f zeros g bad) = (λ l g. omega arith, refl)
