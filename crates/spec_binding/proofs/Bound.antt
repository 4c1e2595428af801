-- Where no cell has something left in both verdicts, t, g and h themselves are bound (document 02, Items 5 and 13): one verdict is not enough (`one_is_not-enough`).
use mathlib.Core.Path.{◌≡◌}
use mathlib.Core.List.{List, []}
use Prim.Native.Nat.{ℕ, ◌+◌}
use native.Mathlib.Omega.{arith}
use Rattle.spec_protocol.specs.Parameters.{parameters}
use Rattle.spec_protocol.specs.Views.{public}
use Rattle.spec_protocol.specs.Formulas.{rows, triangle, t_digits, g_digits}
use Rattle.spec_protocol.specs.CellsBack.{AllBack}
use Rattle.spec_protocol.proofs.CellsLeft.{none_exactly_when}
use Rattle.spec_binding.specs.Openings.{columns_B, sent, opening_1, opening_2, EqualU1, EqualU2, GivenAway1, GivenAway2, Accepted, SameTG, SameH}
use Rattle.spec_protocol.proofs.Acceptance.{base_at-least}
use Rattle.spec_binding.proofs.Back.{same_cells, same_first, same_second}
use Rattle.spec_binding.proofs.Binding.{found, length-t, binding_1, binding_2}

-- the cells of an accepted transcript without something left come back from their digits
all_back : (J X : List ℕ) (a : Accepted J X 0) → AllBack (public J a.randomness) (sent J X).t (sent J X).g (sent J X).h
all_back J X a =
    let base = base_at-least J a.randomness X a.scratch 0 a.verdict in
    (none_exactly_when (public J a.randomness) (sent J X).t (sent J X).g (sent J X).h (omega arith)).0 (found J X 0 a).number

-- two transcripts accepted under the same job, in which no cell has something left
module _ (J X Y : List ℕ) (a : Accepted J X 0) (a' : Accepted J Y 0) where
  open parameters J use {r, κ, b, t₁, t₂}

  -- the same digits are those of the same cells
  pub same-t-g : opening_1 J X ≡ opening_1 J Y → SameTG J X Y
  unfolding opening_1 rows triangle
  same-t-g same =
      let X₀ = public J [] in
      let t_same = same_first (columns_B J) (t_digits X₀ (sent J X).t) (g_digits X₀ (sent J X).g) (t_digits X₀ (sent J Y).t) (g_digits X₀ (sent J Y).g) (length-t J X 0 a)
      (length-t J Y 0 a') same in
      let g-same = same_second (columns_B J) (t_digits X₀ (sent J X).t) (g_digits X₀ (sent J X).g) (t_digits X₀ (sent J Y).t) (g_digits X₀ (sent J Y).g) (length-t J X 0 a)
      (length-t J Y 0 a') same in
      record {
        of_t = same_cells b t₁ r (λ i. κ) (sent J X).t (sent J Y).t t_same (all_back J X a).of_t (all_back J Y a').of_t;
        of_g = λ i j h l. same_cells b t₂ r (λ i. i + 1) (sent J X).g (sent J Y).g g-same (λ i j h l. (all_back J X a).of_g i j h (omega arith))
            (λ i j h l. (all_back J Y a').of_g i j h (omega arith)) i j h (omega arith);
      }

  pub same-h : opening_2 J X ≡ opening_2 J Y → SameH J X Y
  unfolding opening_2 triangle
  same-h same i j h l =
      same_cells b t₁ r (λ i. i + 1) (sent J X).h (sent J Y).h same (λ i j h l. (all_back J X a).of_h i j h (omega arith)) (λ i j h l. (all_back J Y a').of_h i j h (omega arith)) i j h (omega arith)

  -- equal u1 with t or g that differ give the vector away
  pub bound_1 : EqualU1 J X Y → (SameTG J X Y → ⊥) → GivenAway1 J X Y
  bound_1 equal differ = binding_1 J X Y 0 0 a a' equal (λ same. differ (same-t-g same))

  -- equal u2 with h that differs
  pub bound_2 : EqualU2 J X Y → (SameH J X Y → ⊥) → GivenAway2 J X Y
  bound_2 equal differ = binding_2 J X Y 0 0 a a' equal (λ same. differ (same-h same))
