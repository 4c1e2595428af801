-- The first of several answers that is not fine.
use mathlib.Core.Path.{◌≡◌, sym, ap, subst, ◌∙◌}
use mathlib.Core.Logic.{◌⊎◌, inl, inr}
use Prim.Native.Nat.{ℕ, zero, suc, ◌+◌, ◌<◌}
use native.Mathlib.Nat.{not-suc-le-zero, eq-or-lt_of_le}
use native.Mathlib.Numerals.{add-one}
use native.Mathlib.Omega.{arith}
use Rattle.spec_leaves.specs.Answer.{Answer, fine, refused, ◌then◌}
use Rattle.spec_protocol.specs.Checks.{first}
use Rattle.spec_protocol.proofs.Fine.{then_both_fine, then_fine_left, then_fine_right}

-- one more fine answer
pub first_next : (k : ℕ) (f : ℕ → Answer) → first k f ≡ fine → f k ≡ fine → first (k + 1) f ≡ fine
unfolding first
first_next k f e h = rw add-one (then_both_fine e h)

-- a refusal after fine answers is the first
pub first_found : (n k : ℕ) (f : ℕ → Answer) {number place : ℕ} → k < n → first k f ≡ fine → refused number place ≡ f k → refused number place ≡ first n f
unfolding first
first_found zero k f h e g = absurd (not-suc-le-zero h)
first_found (suc n) k f {number} {place} h e g = go (eq-or-lt_of_le h) (λ l. first_found n k f l e g)
  where
    go : (suc k ≡ suc n) ⊎ (suc k < suc n) → (k < n → refused number place ≡ first n f) → refused number place ≡ first n f then f n
    go (inl p) ih =
        let q : k ≡ n = omega arith in
        g ∙ ap f q ∙ ap (λ a. a then f n) (sym (subst (λ m. first m f ≡ fine) q e))
    go (inr l) ih = ap (λ a. a then f n) (ih (omega arith))

-- where no answer is refused, each is fine
pub first-each : (n : ℕ) (f : ℕ → Answer) → first n f ≡ fine → (k : ℕ) → k < n → f k ≡ fine
unfolding first
first-each zero f e k h = absurd (not-suc-le-zero h)
first-each (suc n) f e k h = go (eq-or-lt_of_le h) (first-each n f (then_fine_left (first n f) (f n) e) k)
  where
    go : (suc k ≡ suc n) ⊎ (suc k < suc n) → (k < n → f k ≡ fine) → f k ≡ fine
    go (inl p) ih = let q : n ≡ k = omega arith in subst (λ m. f m ≡ fine) q (then_fine_right (first n f) (f n) e)
    go (inr l) ih = ih (omega arith)
