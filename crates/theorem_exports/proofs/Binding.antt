-- What two openings of one commitment give away (document 02, Item 13), over the structs that `labrador_verify` answers.
use mathlib.Core.Path.{◌≡◌, ap, ◌∙◌}
use mathlib.Core.List.{List}
use Prim.Native.Nat.{ℕ}
use lib.ListN.{length}
use Rattle.spec_leaves.specs.Answer.{accepted}
use Rattle.api_answers.specs.declared.verdicts.LabradorVerdict.{LabradorVerdict}
use Rattle.api_answers.specs.Whole.{VerifyCall}
use Rattle.spec_binding.specs.Openings.{opening_1, opening_2, EqualU1, EqualU2, GivenAway1, GivenAway2, Accepted, SameTG, SameH}
use Rattle.spec_binding.proofs.Binding.{binding_1, binding_2}
use Rattle.spec_binding.proofs.Bound.{bound_1, bound_2}
use Rattle.theorem_exports.proofs.Accepts.{accepts}

-- a verdict with the number 0 is an acceptance
module _ (J R X scratch : List ℕ) {left : List ℕ} (v : LabradorVerdict) (judged : VerifyCall J R X scratch left v) (zero : v.number ≡ 0) where
  pub accepted-by_export : Accepted J X v.cells_left
  accepted-by_export = record { randomness = R; scratch = length scratch; verdict = accepts J R X scratch v judged zero }

  pub none-left-by_export : v.cells_left ≡ 0 → Accepted J X 0
  none-left-by_export none = record { randomness = R; scratch = length scratch; verdict = accepts J R X scratch v judged zero ∙ ap accepted none }

-- two calls with one job that answer 0
module _ (J R R' X Y scratch scratch' : List ℕ) {left left' : List ℕ} (v v' : LabradorVerdict)
    (judged : VerifyCall J R X scratch left v) (judged' : VerifyCall J R' Y scratch' left' v') (zero : v.number ≡ 0) (zero' : v'.number ≡ 0) where
  pub binding_1_over_exports : EqualU1 J X Y → (opening_1 J X ≡ opening_1 J Y → ⊥) → GivenAway1 J X Y
  binding_1_over_exports = binding_1 J X Y v.cells_left v'.cells_left (accepted-by_export J R X scratch v judged zero) (accepted-by_export J R' Y scratch' v' judged' zero')

  pub binding_2_over_exports : EqualU2 J X Y → (opening_2 J X ≡ opening_2 J Y → ⊥) → GivenAway2 J X Y
  binding_2_over_exports = binding_2 J X Y v.cells_left v'.cells_left (accepted-by_export J R X scratch v judged zero) (accepted-by_export J R' Y scratch' v' judged' zero')

  -- and state that no cell has something left
  module _ (none : v.cells_left ≡ 0) (none' : v'.cells_left ≡ 0) where
    pub bound_1_over_exports : EqualU1 J X Y → (SameTG J X Y → ⊥) → GivenAway1 J X Y
    bound_1_over_exports = bound_1 J X Y (none-left-by_export J R X scratch v judged zero none) (none-left-by_export J R' Y scratch' v' judged' zero' none')

    pub bound_2_over_exports : EqualU2 J X Y → (SameH J X Y → ⊥) → GivenAway2 J X Y
    bound_2_over_exports = bound_2 J X Y (none-left-by_export J R X scratch v judged zero none) (none-left-by_export J R' Y scratch' v' judged' zero' none')
