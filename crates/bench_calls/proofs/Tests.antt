-- Tests that pass together.
use mathlib.Core.Path.{◌≡◌, refl, sym, ap, subst}
use mathlib.Core.Bool.{Bool, true, false, not, ◌&&◌}
use lib.Dec.{T}

-- false is not true
pub no : false ≡ true → ⊥
no e = subst (λ (t : Bool). T (not t)) e tt

-- each of two tests passes
pub both : (a b : Bool) → a && b ≡ true → (a ≡ true) × (b ≡ true)
both true b e = (refl, e)
both false b e = absurd (no e)

-- each of three tests passes
pub three : (a b c : Bool) → a && b && c ≡ true → (a ≡ true) × (b ≡ true) × (c ≡ true)
three true true c e = (refl, refl, e)
three true false c e = absurd (no e)
three false b c e = absurd (no e)

-- after a test that passes, the others decide
pub passed : (a b : Bool) → a ≡ true → b ≡ a && b
passed a b e = ap (λ t. t && b) (sym e)

-- after one that fails, they do not count
pub failed : (a b : Bool) → a ≡ false → false ≡ a && b
failed a b e = ap (λ t. t && b) (sym e)
