-- A message that agrees with the formulas at each index in range.
use mathlib.Core.Path.{◌≡◌}
use Prim.Native.Nat.{ℕ, ◌<◌}
use Rattle.spec_leaves.specs.Rq.{Element}
use Rattle.spec_protocol.specs.Views.{Public, Message}
use Rattle.spec_protocol.specs.Formulas as F

-- what M sends is what the formulas give of the public values X and the witness s, at each index in range
pub record Agrees (X : Public) (s : ℕ → ℕ → Element) (M : Message) : Type 0 where
  pub u₁ : (k : ℕ) → k < X.P.κ₁ → M.u₁ k ≡ F.u₁ X s k
  pub p : (j : ℕ) → j < 256 → M.p j ≡ F.p X s j
  pub b'' : (k : ℕ) → k < X.P.L → M.b'' k ≡ F.b'' X s k
  pub u₂ : (k : ℕ) → k < X.P.κ₂ → M.u₂ k ≡ F.u₂ X s k
  pub z : (m : ℕ) → m < X.P.n → M.z m ≡ F.z X s m
  pub t : (i k : ℕ) → i < X.P.r → k < X.P.κ → M.t i k ≡ F.t X s i k
  pub g : (i j : ℕ) → i < X.P.r → j < X.P.r → M.g i j ≡ F.g X s i j
  pub h : (i j : ℕ) → i < X.P.r → j < X.P.r → M.h i j ≡ F.h X s i j
