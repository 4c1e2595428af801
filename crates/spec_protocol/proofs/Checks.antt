-- Laws of tests one after the other.
use mathlib.Core.Path.{◌≡◌, refl, ap₂}
use Prim.Native.Nat.{ℕ, zero, suc, ◌<◌}
use native.Mathlib.Omega.{arith}
use Rattle.spec_leaves.specs.Answer.{Answer, fine, ◌then◌}
use Rattle.spec_protocol.specs.Checks.{require, first}
pub use Rattle.spec_leaves.proofs.Fine.{then_fine}

-- tests of equivalent facts with equal answers are equal
pub require_iff {ℓ κ} : {A : Type ℓ} {B : Type κ} (d : Dec A) (e : Dec B) (answer other : Answer) → (A → B) → (B → A) → answer ≡ other → require d answer ≡ require e other
require_iff (yes a) (yes b) answer other f g same = refl
require_iff (yes a) (no n) answer other f g same = absurd (n (f a))
require_iff (no n) (yes b) answer other f g same = absurd (n (g b))
require_iff (no n) (no m) answer other f g same = same

-- answers that agree below n have the same first that is not fine
pub first_ext : (n : ℕ) (f g : ℕ → Answer) → ((k : ℕ) → k < n → f k ≡ g k) → first n f ≡ first n g
unfolding first
first_ext zero f g h = refl
first_ext (suc n) f g h = ap₂ ◌then◌ (first_ext n f g (λ k l. h k (omega arith))) (h n (omega arith))

-- where each is fine, none is found
pub first_fine : (n : ℕ) (f : ℕ → Answer) → ((k : ℕ) → k < n → f k ≡ fine) → first n f ≡ fine
unfolding first
first_fine zero f h = refl
first_fine (suc n) f h = ap₂ ◌then◌ (first_fine n f (λ k l. h k (omega arith))) (h n (omega arith))
