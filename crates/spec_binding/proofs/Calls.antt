-- The same over the verifier's call, from what its contract ensures of two verdicts alone.
use mathlib.Core.Path.{◌≡◌, sym, ap, ◌∙◌}
use mathlib.Core.List.{List}
use Prim.Native.Nat.{ℕ}
use lib.ListN.{length}
use Rattle.spec_leaves.specs.declared.answers.Verdict.{Verdict}
use Rattle.spec_leaves.specs.declared.answers.Verdict.TheVariants as V'
use Rattle.spec_leaves.specs.Answer.{of_verdict}
use Rattle.spec_protocol.specs.Verifier.{verify}
use Rattle.spec_binding.specs.Openings.{opening_1, opening_2, EqualU1, EqualU2, GivenAway1, GivenAway2, Accepted, SameTG, SameH}
use Rattle.spec_binding.proofs.Binding.{binding_1, binding_2}
use Rattle.spec_binding.proofs.Bound.{bound_1, bound_2}

-- a transcript of which the call's verdict is an acceptance
pub accepted-by_call : (J R X scratch : List ℕ) (v : Verdict) (cells : ℕ) → of_verdict v ≡ verify J R X (length scratch) → v ≡ V'.Accepted cells → Accepted J X cells
accepted-by_call J R X scratch v cells judged is = record { randomness = R; scratch = length scratch; verdict = sym judged ∙ ap of_verdict is }

-- two calls with one job, and what their contracts ensure
module _ (J R R' X Y scratch scratch' : List ℕ) (v v' : Verdict) (judged : of_verdict v ≡ verify J R X (length scratch)) (judged' : of_verdict v' ≡ verify J R' Y (length scratch')) where
  -- both accept
  module _ (cells cells' : ℕ) (is : v ≡ V'.Accepted cells) (is' : v' ≡ V'.Accepted cells') where
    pub binding_1_over_calls : EqualU1 J X Y → (opening_1 J X ≡ opening_1 J Y → ⊥) → GivenAway1 J X Y
    binding_1_over_calls = binding_1 J X Y cells cells' (accepted-by_call J R X scratch v cells judged is) (accepted-by_call J R' Y scratch' v' cells' judged' is')

    pub binding_2_over_calls : EqualU2 J X Y → (opening_2 J X ≡ opening_2 J Y → ⊥) → GivenAway2 J X Y
    binding_2_over_calls = binding_2 J X Y cells cells' (accepted-by_call J R X scratch v cells judged is) (accepted-by_call J R' Y scratch' v' cells' judged' is')

  -- both accept, and no cell has something left
  module _ (is : v ≡ V'.Accepted 0) (is' : v' ≡ V'.Accepted 0) where
    pub bound_1_over_calls : EqualU1 J X Y → (SameTG J X Y → ⊥) → GivenAway1 J X Y
    bound_1_over_calls = bound_1 J X Y (accepted-by_call J R X scratch v 0 judged is) (accepted-by_call J R' Y scratch' v' 0 judged' is')

    pub bound_2_over_calls : EqualU2 J X Y → (SameH J X Y → ⊥) → GivenAway2 J X Y
    bound_2_over_calls = bound_2 J X Y (accepted-by_call J R X scratch v 0 judged is) (accepted-by_call J R' Y scratch' v' 0 judged' is')
