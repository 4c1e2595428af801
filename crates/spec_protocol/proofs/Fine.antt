-- When an answer is fine.
use mathlib.Core.Path.{◌≡◌, refl, ap}
use mathlib.Core.List.{List}
use Prim.Native.Nat.{ℕ}
use native.Mathlib.Omega.{arith}
use Rattle.spec_leaves.specs.Answer.{Answer, fine, accepted, refused, failed, ◌then◌}
use Rattle.spec_protocol.specs.Checks.{require}
pub use Rattle.spec_leaves.proofs.Fine.{accepted_not-fine, refused_not-fine, failed_not-fine, then_both_fine, then_fine_left, then_fine_right, cond-fine, cond_not-fine}

-- a fact that holds is not complained of
pub require-holds {ℓ} : {A : Type ℓ} (d : Dec A) (answer : Answer) → A → require d answer ≡ fine
require-holds (yes a) answer h = refl
require-holds (no n) answer h = absurd (n h)

-- a fact that does not hold is complained of
pub require_fails {ℓ} : {A : Type ℓ} (d : Dec A) (answer : Answer) → (A → ⊥) → require d answer ≡ answer
require_fails (yes a) answer h = absurd (h a)
require_fails (no n) answer h = refl

-- a fact whose test is fine holds, where the answer given is not fine
pub required {ℓ} : {A : Type ℓ} (d : Dec A) (answer : Answer) → (answer ≡ fine → ⊥) → require d answer ≡ fine → A
required (yes a) answer bad e = a
required (no n) answer bad e = absurd (bad e)

-- a failed check is not a refusal
pub failed_not-refused : (number : ℕ) (values : List ℕ) (number' place : ℕ) → failed number values ≡ refused number' place → ⊥
failed_not-refused number values number' place e = let z : ◌≡◌ {A = ℕ} 0 1 = cc in omega arith

-- a refusal is not an acceptance
pub refused_not-accepted : (number place cells : ℕ) → refused number place ≡ accepted cells → ⊥
refused_not-accepted number place cells e = let z : ◌≡◌ {A = ℕ} 0 1 = cc in omega arith

-- nor is a failed check
pub failed_not-accepted : (number : ℕ) (values : List ℕ) (cells : ℕ) → failed number values ≡ accepted cells → ⊥
failed_not-accepted number values cells e = let z : ◌≡◌ {A = ℕ} 0 1 = cc in omega arith

-- the number that an acceptance holds
abbrev held : Answer → ℕ
held fine = 0
held (accepted cells) = cells
held (refused n p) = 0
held (failed n vs) = 0

pub accepted-same : (cells cells' : ℕ) → accepted cells ≡ accepted cells' → cells ≡ cells'
accepted-same cells cells' e = ap held e

-- five answers that are fine together
pub then_fine_each : (a b c d e : Answer) → a then b then c then d then e ≡ fine → (a ≡ fine) × (b ≡ fine) × (c ≡ fine) × (d ≡ fine) × (e ≡ fine)
then_fine_each a b c d e h =
    let four : a then b then c then d ≡ fine = then_fine_left (a then b then c then d) e h in
    let three : a then b then c ≡ fine = then_fine_left (a then b then c) d four in
    let two : a then b ≡ fine = then_fine_left (a then b) c three in
    (then_fine_left a b two, then_fine_right a b two, then_fine_right (a then b) c three, then_fine_right (a then b then c) d four, then_fine_right (a then b then c then d) e h)
