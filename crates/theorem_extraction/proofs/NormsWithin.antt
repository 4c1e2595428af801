-- A number that is modulo Q an integer of at most some size: numbers summed, subtracted and multiplied. The centred size is the least such size.
use mathlib.Core.Path.{◌≡◌, refl, sym, ap, ap₂, subst, ◌∙◌}
use mathlib.Core.Bool.{Bool, true, false}
use Prim.Native.Nat.{ℕ, zero, suc, ◌+◌, ◌-◌, ◌*◌, ◌%◌, ◌≤◌, ◌<◌}
use native.Mathlib.Nat.{mul-le-mul, mod-mod}
use native.Mathlib.Omega.{arith}
use Rattle.math.specs.lists.Sum.{Σ}
use Rattle.spec_leaves.specs.Zq.{Q, Canonical, zsub, is_larger_than_half, size}
use Rattle.spec_leaves.specs.Digits.{signed}
use Rattle.spec_leaves.proofs.Modulo.{mul-mod-both}
use Rattle.spec_leaves.proofs.Centre.{size-le, signed-size}

-- x is modulo Q the integer plus − minus, and plus + minus is at most s
pub record Within (x s : ℕ) : Type 0 where
  pub plus : ℕ
  pub minus : ℕ
  pub same : (x + minus) % Q ≡ plus % Q
  pub small : plus + minus ≤ s

-- a number is within itself
pub within_itself : (x : ℕ) → Within x x
within_itself x = record { plus = x; minus = 0; same = omega arith; small = omega arith }

-- a number with a sign is within the number
signed-within : (t : Bool) (n : ℕ) → Within (signed t n) n
signed-within true n = record { plus = 0; minus = n; same = omega arith; small = omega arith }
signed-within false n = within_itself n

-- a canonical value is within its size
pub size-within : (x : ℕ) → Canonical x → Within x (size x)
size-within x h = subst (λ y. Within y (size x)) (signed-size x h) (signed-within (is_larger_than_half x) (size x))

-- and within nothing smaller
pub size-least : (x s : ℕ) → Canonical x → Within x s → size x ≤ s
size-least x s h w = omega (arith, least (is_larger_than_half x) (size x) w.plus w.minus (omega (arith, size-le x h)) (ap (λ y. (y + w.minus) % Q) (signed-size x h) ∙ w.same), w.small)
  where
    least : (t : Bool) (n p m : ℕ) → n + n < Q → (signed t n + m) % Q ≡ p % Q → n ≤ p + m
    least true n p m l e = omega arith
    least false n p m l e = omega arith

-- numbers that are equal modulo Q
pub within-mod : (x y s : ℕ) → x % Q ≡ y % Q → Within x s → Within y s
within-mod x y s e w =
    let same = w.same in
    record { plus = w.plus; minus = w.minus; same = omega arith; small = w.small }

-- a sum
pub within-add : (x y s t : ℕ) → Within x s → Within y t → Within (x + y) (s + t)
within-add x y s t v w =
    let e = v.same in
    let f = w.same in
    record { plus = v.plus + w.plus; minus = v.minus + w.minus; same = omega arith; small = omega (arith, v.small, w.small) }

-- a negative
within-neg : (y t : ℕ) → Within y t → Within (Q - y % Q) t
within-neg y t w =
    let e = w.same in
    record { plus = w.minus; minus = w.plus; same = omega arith; small = omega (arith, w.small) }

-- a difference
pub within-sub : (x y s t : ℕ) → Within x s → Within y t → Within (zsub x y) (s + t)
within-sub x y s t v w = within-mod (x + (Q - y % Q)) (zsub x y) (s + t) (sym (mod-mod (x + (Q - y % Q)) Q)) (within-add x (Q - y % Q) s t v (within-neg y t w))

-- a product
pub within-mul : (x y s t : ℕ) → Within x s → Within y t → Within (x * y) (s * t)
within-mul x y s t v w = record {
  plus = v.plus * w.plus + v.minus * w.minus;
  minus = v.plus * w.minus + v.minus * w.plus;
  same = out x y v.plus v.minus w.plus w.minus v.same w.same;
  small = omega (arith, mul-le-mul v.small w.small);
}
  where
    sums : (a b a' b' : ℕ) → a % Q ≡ a' % Q → b % Q ≡ b' % Q → (a + b) % Q ≡ (a' + b') % Q
    sums a b a' b' e f = omega arith

    products : (a b a' b' : ℕ) → a % Q ≡ a' % Q → b % Q ≡ b' % Q → (a * b) % Q ≡ (a' * b') % Q
    products a b a' b' e f = sym (mul-mod-both Q a b) ∙ ap₂ (λ x y. (x * y) % Q) e f ∙ mul-mod-both Q a' b'

    regroup : (x y m m' : ℕ) → x * y + ((x + m) * m' + m * (y + m')) ≡ (x + m) * (y + m') + m * m'
    regroup x y m m' = omega arith

    out : (x y p m p' m' : ℕ) → (x + m) % Q ≡ p % Q → (y + m') % Q ≡ p' % Q → (x * y + (p * m' + m * p')) % Q ≡ (p * p' + m * m') % Q
    out x y p m p' m' e f =
        sums (x * y) (p * m' + m * p') (x * y) ((x + m) * m' + m * (y + m')) refl
        (sums (p * m') (m * p') ((x + m) * m') (m * (y + m')) (products p m' (x + m) m' (sym e) refl) (products m p' m (y + m') refl (sym f)))
        ∙ ap (λ k. k % Q) (regroup x y m m')
        ∙ sums ((x + m) * (y + m')) (m * m') (p * p') (m * m') (products (x + m) (y + m') p p' e f) refl

-- a finite sum
pub within-Σ : (n : ℕ) (f s : ℕ → ℕ) → ((i : ℕ) → i < n → Within (f i) (s i)) → Within (Σ n f) (Σ n s)
unfolding Σ
within-Σ zero f s h = within_itself 0
within-Σ (suc n) f s h = within-add (Σ n f) (f n) (Σ n s) (s n) (within-Σ n f s (λ i l. h i (omega arith))) (h n (omega arith))
