-- Laws of the remainder by a modulus m: a factor, a term or a sum may be reduced first, and differences modulo m. The two parts of a number of two u64.
use mathlib.Core.Path.{◌≡◌, sym, ap, ◌∙◌}
use Prim.Native.Nat.{ℕ, ◌+◌, ◌-◌, ◌*◌, ◌/◌, ◌%◌, ◌^◌, ◌<◌}
use native.Mathlib.Nat.{mod-add-mod, add-mod-mod, mod-add-div', add-mul-mod_self_right, mul-mod_left, mod-lt, add_assoc, add_right_comm, add-zero, mul_comm}
use native.Mathlib.Nat.{mul-add-div_right, div-eq_of_lt, mul-add-mod_self_right, mod-eq_of_lt}
use native.Mathlib.Omega.{arith}

-- a factor on the left reduced first
pub mul_mod_first : (m a b : ℕ) → (a % m * b) % m ≡ (a * b) % m
mul_mod_first m a b = sym (ap (λ x. x % m) (sym (ap (λ x. x * b) (mod-add-div' a m)) ∙ out (a % m) (a / m)) ∙ add-mul-mod_self_right (a % m * b) (a / m * b) m)
  where
    out : (r q : ℕ) → (r + q * m) * b ≡ r * b + q * b * m
    out r q = omega arith

-- a factor on the right reduced first
pub mul_mod_second : (m a b : ℕ) → (a * (b % m)) % m ≡ (a * b) % m
mul_mod_second m a b = ap (λ x. x % m) (mul_comm a (b % m)) ∙ mul_mod_first m b a ∙ ap (λ x. x % m) (mul_comm b a)

-- both factors reduced first
pub mul-mod-both : (m a b : ℕ) → (a % m * (b % m)) % m ≡ (a * b) % m
mul-mod-both m a b = mul_mod_first m a (b % m) ∙ mul_mod_second m a b

-- terms that agree modulo m give sums that agree modulo m
pub add-mod : (m a b x y : ℕ) → a % m ≡ x % m → b % m ≡ y % m → (a + b) % m ≡ (x + y) % m
add-mod m a b x y e f =
    sym (mod-add-mod a m b) ∙ sym (add-mod-mod (a % m) b m) ∙ ap (λ u. (u + b % m) % m) e ∙ ap (λ u. (x % m + u) % m) f ∙ add-mod-mod (x % m) y m ∙ mod-add-mod x m y

-- a number that is a remainder may stand for what it is the remainder of
pub add_remainder : (m s p v : ℕ) → p % m ≡ v → (s + p) % m ≡ (s + v) % m
add_remainder m s p v e = sym (add-mod-mod s p m) ∙ ap (λ u. (s + u) % m) e

module _ (m : ℕ) (pos : 0 < m) where
  -- y and its negative sum to zero modulo m
  pub add-neg-mod : (y : ℕ) → (y + (m - y % m)) % m ≡ 0
  add-neg-mod y = ap (λ x. x % m) (whole (y % m) (y / m) (mod-add-div' y m) (mod-lt y pos)) ∙ mul-mod_left (y / m + 1) m
    where
      whole : (r q : ℕ) → r + q * m ≡ y → r < m → y + (m - r) ≡ (q + 1) * m
      whole r q e l = omega arith

  -- a term that is zero modulo m may be left out
  pub add_zero-mod : (x n : ℕ) → n % m ≡ 0 → (x + n) % m ≡ x % m
  add_zero-mod x n e = sym (add-mod-mod x n m) ∙ ap (λ k. (x + k) % m) e ∙ ap (λ k. k % m) (add-zero x)

  -- x + y − y is x modulo m
  pub add-sub-mod : (x y : ℕ) → (x + y + (m - y % m)) % m ≡ x % m
  add-sub-mod x y = ap (λ k. k % m) (add_assoc x y (m - y % m)) ∙ add_zero-mod x (y + (m - y % m)) (add-neg-mod y)

  -- x − y + y is x modulo m
  pub sub-add-mod : (x y : ℕ) → ((x + (m - y % m)) % m + y) % m ≡ x % m
  sub-add-mod x y = mod-add-mod (x + (m - y % m)) m y ∙ ap (λ k. k % m) (add_right_comm x (m - y % m) y) ∙ add-sub-mod x y

  -- numbers that are equal modulo m after y is added to both are equal modulo m
  pub add_cancel-mod : (x y z : ℕ) → (x + y) % m ≡ (z + y) % m → x % m ≡ z % m
  add_cancel-mod x y z e =
      sym (add-sub-mod x y) ∙ sym (mod-add-mod (x + y) m (m - y % m)) ∙ ap (λ k. (k + (m - y % m)) % m) e ∙ mod-add-mod (z + y) m (m - y % m) ∙ add-sub-mod z y

-- the upper part of hi · 2^64 + lo
pub upper-part : (hi lo : ℕ) → lo < 2 ^ 64 → hi ≡ (hi * 2 ^ 64 + lo) / 2 ^ 64
upper-part hi lo h = sym (mul-add-div_right {m = 2 ^ 64} (omega arith) hi lo ∙ ap (λ n. hi + n) (div-eq_of_lt h) ∙ add-zero hi)

-- and its lower part
pub lower_part : (hi lo : ℕ) → lo < 2 ^ 64 → lo ≡ (hi * 2 ^ 64 + lo) % 2 ^ 64
lower_part hi lo h = sym (mul-add-mod_self_right hi (2 ^ 64) lo ∙ mod-eq_of_lt h)
