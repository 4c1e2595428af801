-- The products stand in the window while the challenges are stored before them; the order of the checks.
use mathlib.Core.Path.{◌≡◌, ap, ap₂, ◌∙◌}
use mathlib.Core.List.{List}
use Prim.Native.Nat.{ℕ, ◌+◌, ◌*◌, ◌≤◌}
use native.Mathlib.Nat.{mul-le-mul_left}
use native.Mathlib.Omega.{arith}
use Rattle.math.specs.lists.Part.{splice}
use Rattle.spec_leaves.specs.Answer.{of_checked, ◌then◌}
use Rattle.std.specs.Prelude.{Result}
use Rattle.spec_leaves.specs.declared.answers.Rejection.{Rejection}
use Rattle.spec_protocol.specs.Parameters.{parameters}
use Rattle.spec_protocol.specs.Many.{products_at, RowsDone}
use Rattle.layout_regions.specs.declared.Regions.{Regions}
use Rattle.relation_env_params.specs.declared.env_params.EnvironmentParameters.{EnvironmentParameters}
use Rattle.relation_env_params.specs.Parameters.{parameters_of}
use Rattle.core_workspace.specs.Ready.{Ready}
use Rattle.core_workspace.specs.Aggregated.{c_words}
use Rattle.core_workspace.proofs.Unchanged.{unchanged_refl, unchanged_stored}
use Rattle.core_workspace.proofs.Ready.{length-c}
use Rattle.verifier_common.specs.Answers.{t_and_g_bounds, h_bound, u1_differs, u2_differs}
use Rattle.verifier_commitments.specs.Order.{commitments}
use Rattle.verifier_digits.specs.declared.SentDigits.{SentDigits}
use Rattle.verifier_digits.specs.Taken.{Taken, t_and_g_found, h_found}
use Rattle.verifier_digits.proofs.Digits.{t_and-g_is, h_is}

module _ (J R X : List ℕ) (params : EnvironmentParameters) (regions : Regions) (W W' : List ℕ) (ready : Ready J params regions W) where
  -- the challenges' region ends before the products
  before-products : regions.challenges + 64 * (parameters J).r ≤ products_at (parameters J)
  before-products =
      let laid = ready.laid in
      omega (arith, laid.first, laid.a2, laid.phi, laid.a_or_h, laid.g, laid.challenges, mul-le-mul_left (parameters J).r ready.sound.within.n.0)

  -- so the products stay
  pub products_stay : W' ≡ splice W regions.challenges (c_words J R) → (n : ℕ) → RowsDone J X W n → RowsDone J X W' n
  unfolding RowsDone
  products_stay e n done =
      (unchanged_stored (products_at (parameters J)) W W W' regions.challenges (c_words J R) (unchanged_refl (products_at (parameters J)) W) e (omega (arith, length-c J R, before-products))).beyond
      ∙ done

-- the checks of the commitments by what is found of the digits, of 28 and of 29
pub found : (J X : List ℕ) (params : EnvironmentParameters) → parameters_of params ≡ parameters J → (d : SentDigits) → Taken (parameters_of params) X d
    → (u1 u2 : Result Unit Rejection) → of_checked u1 ≡ u1_differs J X → of_checked u2 ≡ u2_differs J X
    → (t_and_g_found d then of_checked u1) then (h_found d then of_checked u2) ≡ commitments J X
found J X params e d taken u1 u2 f g =
    ap₂ (λ a b. (a then of_checked u1) then (b then of_checked u2)) (t_and-g_is (parameters_of params) X d taken) (h_is (parameters_of params) X d taken)
    ∙ ap₂ (λ a b. (t_and_g_bounds (parameters_of params) X then a) then (h_bound (parameters_of params) X then b)) f g
    ∙ ap (λ P. (t_and_g_bounds P X then u1_differs J X) then (h_bound P X then u2_differs J X)) e
