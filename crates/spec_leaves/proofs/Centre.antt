-- The centre of a canonical value: its sign, its size, its square, and the centre of the negative.
use mathlib.Core.Path.{◌≡◌, refl, sym, ap, ap₂, ◌∙◌}
use mathlib.Core.Bool.{Bool, true, false, cond, not}
use Prim.Native.Nat.{ℕ, zero, suc, ◌-◌, ◌*◌, ◌≤◌, ◌<◌}
use native.Mathlib.Omega.{arith}
use lib.IntN.{pos, negsuc, neg_ℤ, neg_ℤ-neg_ℤ, nat_abs, ◌-ℤ◌, ◌*ℤ◌}
use borrow.Author.Tests.{lt-ltb, le-ltb}
use Rattle.spec_leaves.specs.Zq.{Q, lack_Q, half_Q, Canonical, zneg, is_larger_than_half, centre, size}
use Rattle.spec_leaves.specs.Digits.{signed}
use Rattle.spec_leaves.specs.Norm.{square}
use Rattle.spec_leaves.proofs.Cases.{ltb_cases}
use Rattle.spec_leaves.proofs.Suited.{suited, odd_modulus}

-- a size is at most the greatest centre
pub size-le : (a : ℕ) → Canonical a → size a ≤ half_Q
size-le a h = ltb_cases (λ t. cond t (Q - a) a ≤ half_Q) half_Q a (λ l. omega arith) (λ l. omega arith)

-- a value is its size with its sign
pub signed-size : (a : ℕ) → Canonical a → signed (is_larger_than_half a) (size a) ≡ a
signed-size a h = ltb_cases (λ t. signed t (cond t (Q - a) a) ≡ a) half_Q a (λ l. omega arith) (λ l. refl)

-- a − Q is minus Q − a
below_zero : (a : ℕ) → a < Q → pos a -ℤ pos Q ≡ neg_ℤ (pos (Q - a))
below_zero a h = ltb_cases (λ t. cond t (negsuc (Q - suc a)) (pos (a - Q)) ≡ neg_ℤ (pos (Q - a))) a Q (λ l. sym (ap (λ n. neg_ℤ (pos n)) e)) (λ l. absurd (never l))
  where
    e : Q - a ≡ suc (Q - suc a)
    e = omega arith

    never : Q ≤ a → ⊥
    never l = omega arith

-- the centre is the size, or minus the size where the value is above half
pub centre-signed : (a : ℕ) → Canonical a → centre a ≡ cond (is_larger_than_half a) (neg_ℤ (pos (size a))) (pos (size a))
centre-signed a h = ltb_cases (λ t. cond t (pos a -ℤ pos Q) (pos a) ≡ cond t (neg_ℤ (pos (cond t (Q - a) a))) (pos (cond t (Q - a) a))) half_Q a (λ l. below_zero a h) (λ l. refl)

-- the absolute value of −n is n
nat_abs_neg : (n : ℕ) → nat_abs (neg_ℤ (pos n)) ≡ n
nat_abs_neg zero = refl
nat_abs_neg (suc n) = refl

-- the square of −n is n·n
square-neg : (n : ℕ) → neg_ℤ (pos n) *ℤ neg_ℤ (pos n) ≡ pos (n * n)
square-neg zero = refl
square-neg (suc n) = refl

-- the size is the centre's absolute value
pub size_abs : (a : ℕ) → Canonical a → size a ≡ nat_abs (centre a)
size_abs a h = sym (ap nat_abs (centre-signed a h) ∙ either (is_larger_than_half a) (size a))
  where
    either : (t : Bool) (n : ℕ) → nat_abs (cond t (neg_ℤ (pos n)) (pos n)) ≡ n
    either true n = nat_abs_neg n
    either false n = refl

-- the square in a norm is the centre's square
pub centre-square : (a : ℕ) → Canonical a → centre a *ℤ centre a ≡ pos (square a)
centre-square a h = ap₂ ◌*ℤ◌ (centre-signed a h) (centre-signed a h) ∙ either (is_larger_than_half a) (size a)
  where
    either : (t : Bool) (n : ℕ) → cond t (neg_ℤ (pos n)) (pos n) *ℤ cond t (neg_ℤ (pos n)) (pos n) ≡ pos (n * n)
    either true n = square-neg n
    either false n = refl

-- a value given by its sign and size is canonical
pub signed-canonical : (t : Bool) (n : ℕ) → n < Q → Canonical (signed t n)
signed-canonical true n l = omega arith
signed-canonical false n l = l

-- a value with a sign and a positive size is above half where the sign says so, since Q is odd
half_signed : (t : Bool) (n : ℕ) → 0 < n → n ≤ half_Q → is_larger_than_half (signed t n) ≡ t
half_signed true n p l = lt-ltb half_Q (zneg n) (omega (arith, odd_modulus lack_Q suited))
half_signed false n p l = le-ltb half_Q n l

-- the size of a value given by its sign and size
pub size-signed : (t : Bool) (n : ℕ) → n ≤ half_Q → size (signed t n) ≡ n
size-signed true zero l = refl
size-signed false zero l = refl
size-signed true (suc n) l = ap (λ t. cond t (Q - zneg (suc n)) (zneg (suc n))) (half_signed true (suc n) (omega arith) l) ∙ omega arith
size-signed false (suc n) l = ap (λ t. cond t (Q - suc n) (suc n)) (half_signed false (suc n) (omega arith) l)

-- the centre of a value given by its sign and size
pub centre_of-signed : (t : Bool) (n : ℕ) → n ≤ half_Q → centre (signed t n) ≡ cond t (neg_ℤ (pos n)) (pos n)
centre_of-signed true zero l = refl
centre_of-signed false zero l = refl
centre_of-signed t (suc n) l =
    centre-signed (signed t (suc n)) (signed-canonical t (suc n) (omega arith))
    ∙ ap₂ (λ u m. cond u (neg_ℤ (pos m)) (pos m)) (half_signed t (suc n) (omega arith) l) (size-signed t (suc n) l)

-- the negative has the other sign
pub zneg-signed : (t : Bool) (n : ℕ) → n < Q → zneg (signed t n) ≡ signed (not t) n
zneg-signed true n l = omega arith
zneg-signed false n l = refl

-- the negative of a value by the value's sign and size
zneg-size : (a : ℕ) → Canonical a → zneg a ≡ signed (not (is_larger_than_half a)) (size a)
zneg-size a h = ap zneg (sym (signed-size a h)) ∙ zneg-signed (is_larger_than_half a) (size a) (omega (arith, size-le a h))

-- a value and its negative have the same size
pub size-zneg : (a : ℕ) → Canonical a → size (zneg a) ≡ size a
size-zneg a h = ap size (zneg-size a h) ∙ size-signed (not (is_larger_than_half a)) (size a) (size-le a h)

-- the centre of the negative is minus the centre
pub centre-zneg : (a : ℕ) → Canonical a → centre (zneg a) ≡ neg_ℤ (centre a)
centre-zneg a h =
    ap centre (zneg-size a h)
    ∙ centre_of-signed (not (is_larger_than_half a)) (size a) (size-le a h)
    ∙ either (is_larger_than_half a) (size a)
    ∙ sym (ap neg_ℤ (centre-signed a h))
  where
    either : (t : Bool) (n : ℕ) → cond (not t) (neg_ℤ (pos n)) (pos n) ≡ neg_ℤ (cond t (neg_ℤ (pos n)) (pos n))
    either true n = sym (neg_ℤ-neg_ℤ (pos n))
    either false n = refl
