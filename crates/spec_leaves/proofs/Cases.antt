-- Cases on tests.
use mathlib.Core.Path.{◌≡◌, refl, sym, ◌∙◌}
use mathlib.Core.Bool.{Bool, true, false, ◌&&◌, decide, false≢true}
use Prim.Native.Nat.{ℕ, ◌≤◌, ◌<◌}
use lib.Dec.{ltb}
use borrow.Author.Tests.{ltb-true, ltb-false}

-- what holds of `true` where a < b and of `false` where b ≤ a holds of the test whether a < b
pub ltb_cases {ℓ} : (P : Bool → Type ℓ) (a b : ℕ) → (a < b → P true) → (b ≤ a → P false) → P (ltb a b)
ltb_cases P a b f g = go (ltb a b) refl
  where
    go : (t : Bool) → ltb a b ≡ t → P t
    go true e = f (ltb-true a b e)
    go false e = g (ltb-false a b e)

-- a fact that holds is decided so
pub decided {ℓ} : {A : Type ℓ} (d : Dec A) → A → decide d ≡ true
unfolding decide
decided (yes a) h = refl
decided (no n) h = absurd (n h)

-- a fact that does not hold is decided so
pub not_decided {ℓ} : {A : Type ℓ} (d : Dec A) → (A → ⊥) → decide d ≡ false
unfolding decide
not_decided (yes a) h = absurd (h a)
not_decided (no n) h = refl

-- nothing is both true and false
pub no_both : {b : Bool} → b ≡ true → b ≡ false → ⊥
no_both p q = false≢true (sym q ∙ p)

-- each of two tests passes
pub both_true : (a b : Bool) → a && b ≡ true → (a ≡ true) × (b ≡ true)
both_true true b e = (refl, e)
both_true false b e = absurd (false≢true e)
