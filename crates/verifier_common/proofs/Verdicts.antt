-- Checks one after the other.
use mathlib.Core.Path.{◌≡◌, sym, ap, ◌∙◌}
use mathlib.Core.Logic.{◌⊎◌, inl, inr}
use mathlib.Core.List.{List}
use Prim.Native.Nat.{ℕ, zero, suc, ◌<◌}
use native.Mathlib.Nat.{not-suc-le-zero, eq-or-lt_of_le}
use native.Mathlib.Omega.{arith}
use Rattle.spec_leaves.specs.Answer.{Answer, fine, failed, ◌then◌}
use Rattle.spec_protocol.specs.Checks.{first}

-- the first of the tests that fails gives the answer
pub first-failed : (n i : ℕ) (f : ℕ → Answer) (number : ℕ) (values : List ℕ) → i < n → first i f ≡ fine → f i ≡ failed number values → first n f ≡ failed number values
unfolding first
first-failed zero i f number values h e g = absurd (not-suc-le-zero h)
first-failed (suc n) i f number values h e g = go (eq-or-lt_of_le h) (first-failed n i f number values)
  where
    go : (suc i ≡ suc n) ⊎ (suc i < suc n) → (i < n → first i f ≡ fine → f i ≡ failed number values → first n f ≡ failed number values) → first n f then f n ≡ failed number values
    go (inl same) ih =
        let k : i ≡ n = omega arith in
        ap (λ a. a then f n) (ap (λ j. first j f) (sym k) ∙ e) ∙ ap f (sym k) ∙ g
    go (inr less) ih = ap (λ a. a then f n) (ih (omega arith) e g)
