-- Cells that come back from their digits (document 02, Items 2 and 5).
use Rattle.std.specs.Prelude.{◌≡◌, ℕ, ◌<◌, ◌≤◌}
use Rattle.spec_leaves.specs.Digits.{digits}
use Rattle.spec_leaves.specs.Recompose.{recompose}
use Rattle.spec_leaves.specs.Rq.{Element, coeff}
use Rattle.spec_leaves.specs.Ring.{words}
use Rattle.spec_protocol.specs.Views.{Public}

-- each coefficient of a cell is put together again from its digits in a number of parts
abbrev pub Back : ℕ → ℕ → Element → Type 0
Back b parts e = (k : ℕ) → k < 64 → recompose b (digits b parts (coeff (words e) k)) ≡ coeff (words e) k

-- each cell of t, g and h is: t and h from t1 digits, g from t2, the cells of a triangle with j up to i
pub record AllBack (X : Public) (t g h : ℕ → ℕ → Element) : Type 0 where
  pub of_t : (i k : ℕ) → i < X.P.r → k < X.P.κ → Back X.P.b X.P.t₁ (t i k)
  pub of_g : (i j : ℕ) → i < X.P.r → j ≤ i → Back X.P.b X.P.t₂ (g i j)
  pub of_h : (i j : ℕ) → i < X.P.r → j ≤ i → Back X.P.b X.P.t₁ (h i j)
