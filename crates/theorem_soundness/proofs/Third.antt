-- The errors that most rows let through: multiples of Q/3, where 3 divides Q. One row in three weighs them to 0.
use mathlib.Core.Path.{◌≡◌}
use mathlib.Core.Logic.{◌↔◌}
use Prim.Native.Nat.{ℕ, ◌*◌, ◌/◌, ◌<◌, ◌∣◌}
use native.Mathlib.Omega.{arith}
use Rattle.spec_leaves.specs.Zq.{Q}
use Rattle.spec_leaves.specs.Rq.{Element}
use Rattle.spec_protocol.specs.Views.{Public}
use Rattle.spec_protocol.specs.Conditions.{constant_error}
use Rattle.theorem_soundness.specs.Rows.{SomeError, OnePsiRowIn}
use Rattle.theorem_soundness.proofs.GcdThird.{thirds}
use Rattle.theorem_soundness.proofs.RowsOfPsi.{some_error, one-psi-row_in}

-- the share d/Q is a third just where d is Q/3
pub third_where : (d : ℕ) → (3 * d ≡ Q) ↔ (d ≡ Q / 3)
third_where d = (λ h. omega arith, λ h. omega arith)

-- constraints off by multiples of Q/3: exactly one of the rows psi_k, psi_k + ψ*, psi_k + 2·ψ* lets them through, one row in three
pub one-psi-row_in-three : (X : Public) (s : ℕ → ℕ → Element) → ((x : ℕ) → x < X.P.l → Q / 3 ∣ constant_error X s x) → SomeError X s → OnePsiRowIn X s 3
one-psi-row_in-three X s h some = one-psi-row_in X s (Q / 3) (thirds X.P.l (constant_error X s) h (some_error X s some))
