-- When an answer is fine.
use mathlib.Core.Path.{◌≡◌, refl, ap, ◌∙◌}
use mathlib.Core.Bool.{Bool, true, false, cond}
use mathlib.Core.List.{List}
use Prim.Native.Nat.{ℕ}
use native.Mathlib.Omega.{arith}
use Rattle.spec_leaves.specs.Answer.{Answer, fine, accepted, refused, failed, ◌then◌}

-- an acceptance is not fine
pub accepted_not-fine : (cells : ℕ) → accepted cells ≡ fine → ⊥
accepted_not-fine cells e = let z : ◌≡◌ {A = ℕ} 0 1 = cc in omega arith

-- a refusal is not fine
pub refused_not-fine : (number place : ℕ) → refused number place ≡ fine → ⊥
refused_not-fine number place e = let z : ◌≡◌ {A = ℕ} 0 1 = cc in omega arith

-- a failed check is not fine
pub failed_not-fine : (number : ℕ) (values : List ℕ) → failed number values ≡ fine → ⊥
failed_not-fine number values e = let z : ◌≡◌ {A = ℕ} 0 1 = cc in omega arith

-- what is fine after any answer leaves the answer
pub then_fine : (a : Answer) → a then fine ≡ a
then_fine fine = refl
then_fine (accepted cells) = refl
then_fine (refused n p) = refl
then_fine (failed n vs) = refl

-- two fine answers
pub then_both_fine : {a b : Answer} → a ≡ fine → b ≡ fine → a then b ≡ fine
then_both_fine {b = b} e f = ap (λ x. x then b) e ∙ f

-- the first of two answers that are fine together
pub then_fine_left : (a b : Answer) → a then b ≡ fine → a ≡ fine
then_fine_left fine b e = refl
then_fine_left (accepted cells) b e = e
then_fine_left (refused n p) b e = e
then_fine_left (failed n vs) b e = e

-- the second of two answers that are fine together
pub then_fine_right : (a b : Answer) → a then b ≡ fine → b ≡ fine
then_fine_right fine b e = e
then_fine_right (accepted cells) b e = absurd (accepted_not-fine cells e)
then_fine_right (refused n p) b e = absurd (refused_not-fine n p e)
then_fine_right (failed n vs) b e = absurd (failed_not-fine n vs e)

-- a choice that is fine, where a test that fails is refused
pub cond-fine : (b : Bool) (a : Answer) (number place : ℕ) → cond b a (refused number place) ≡ fine → (b ≡ true) × (a ≡ fine)
cond-fine true a number place e = (refl, e)
cond-fine false a number place e = absurd (refused_not-fine number place e)

-- a choice that is fine, where a test that passes is refused
pub cond_not-fine : (b : Bool) (a : Answer) (number place : ℕ) → cond b (refused number place) a ≡ fine → (b ≡ false) × (a ≡ fine)
cond_not-fine true a number place e = absurd (refused_not-fine number place e)
cond_not-fine false a number place e = (refl, e)
