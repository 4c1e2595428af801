-- Units of a commutative ring, and powers of an element whose 64th power is −1: 1 less a power divides 2 unless the exponent is a multiple of 128.
use mathlib.Core.Path.{◌≡◌, sym, ap, ap₂, ◌∙◌}
use Prim.Native.Nat.{ℕ, zero, suc, ◌+◌, ◌-◌, ◌*◌, ◌/◌, ◌%◌, ◌^◌, ◌≤◌, ◌<◌}
use native.Mathlib.Nat as Nat
use native.Mathlib.Decide.{dec_lt, ℕ_discrete}
use native.Mathlib.Omega.{arith}
use Rattle.math.specs.algebra.Ops.{Ops}
use Rattle.math.proofs.algebra.Ring.{CRing, ring, add_left_comm, add_neg_cancel, mul-nil, neg-neg, one-mul, mul-neg}
use Rattle.theorem_soundness.specs.Weights.{IsUnit}

-- twice a number is a multiple of 128 where the number is one of 64
half_multiple : (r : ℕ) → r < 128 → (r + r) % 128 ≡ 0 → (r ≡ 0 → ⊥) → (r ≡ 64 → ⊥) → ⊥
half_multiple r l z d e = go (dec_lt r 64)
  where
    go : Dec (r < 64) → ⊥
    go (yes h) = let f : (r + r) % 128 ≡ r + r = Nat.mod-eq_of_lt (omega arith) in omega arith
    go (no h) = let f : (r + r) % 128 ≡ r + r - 128 = Nat.mod-eq-sub-mod (omega arith) ∙ Nat.mod-eq_of_lt (omega arith) in omega arith

module _ (O : Ops) (R : CRing O) where
  open O use {Carrier, add as ◌⊕◌, mul as ◌⊗◌, neg, nil, one}

  infixl 60 ◌⊕◌
  infixl 70 ◌⊗◌
  -- the product of two units
  pub unit-mul : (a b : Carrier) → IsUnit O a → IsUnit O b → IsUnit O (a ⊗ b)
  unit-mul a b (f, p) (h, q) = (f ⊗ h, order a b f h ∙ ap₂ ◌⊗◌ p q ∙ R.mul-one one)
    where
      order : (a b f h : Carrier) → a ⊗ b ⊗ (f ⊗ h) ≡ a ⊗ f ⊗ (b ⊗ h)
      order a b f h = simp (ring, R)

  -- the negative of a unit
  pub unit-neg : (a : Carrier) → IsUnit O a → IsUnit O (neg a)
  unit-neg a (f, p) = (neg f, signs a f ∙ p)
    where
      signs : (a f : Carrier) → neg a ⊗ neg f ≡ a ⊗ f
      signs a f = simp (ring, R)

  -- a difference taken the other way round
  pub unit-swap : (a b : Carrier) → IsUnit O (a ⊕ neg b) → IsUnit O (b ⊕ neg a)
  unit-swap a b u = rw (signs a b) at (unit-neg (a ⊕ neg b) u)
    where
      signs : (a b : Carrier) → neg (a ⊕ neg b) ≡ b ⊕ neg a
      signs a b = simp (ring, R)

  -- a factor of a unit
  pub unit_factor : (a b : Carrier) → IsUnit O (a ⊗ b) → IsUnit O a
  unit_factor a b (f, p) = (b ⊗ f, sym (R.mul_assoc a b f) ∙ p)

  -- a unit is cancelled
  pub unit_cancel : (a b : Carrier) → IsUnit O a → a ⊗ b ≡ nil → b ≡ nil
  unit_cancel a b (f, p) e = sym (one-mul O R b) ∙ ap (λ x. x ⊗ b) (sym p) ∙ order a f b ∙ ap (λ x. f ⊗ x) e ∙ mul-nil O R f
    where
      order : (a f b : Carrier) → a ⊗ f ⊗ b ≡ f ⊗ (a ⊗ b)
      order a f b = simp (ring, R)

  -- g has the powers of an element whose 64th power is −1, and 2 is a unit
  module _ (g : ℕ → Carrier) (start : g 0 ≡ one) (hom : (i j : ℕ) → g (i + j) ≡ g i ⊗ g j) (half : g 64 ≡ neg one) (two : IsUnit O (one ⊕ one)) where
    -- 64 more is a change of sign
    pub turned : (m : ℕ) → g (m + 64) ≡ neg (g m)
    turned m = hom m 64 ∙ ap (λ x. g m ⊗ x) half ∙ mul-neg O R (g m) one ∙ ap neg (R.mul-one (g m))

    -- power 128 is 1
    whole : g 128 ≡ one
    whole = turned 64 ∙ ap neg half ∙ neg-neg O R one

    -- an odd multiple of 64 gives −1
    minus_one : (m : ℕ) → m % 128 ≡ 64 → g m ≡ neg one
    minus_one m h = ap g (omega arith) ∙ turns (m / 128)
      where
        turns : (n : ℕ) → g (128 * n + 64) ≡ neg one
        turns zero = half
        turns (suc n) = ap g (more n) ∙ hom (128 * n + 64) 128 ∙ ap (λ x. g (128 * n + 64) ⊗ x) whole ∙ R.mul-one (g (128 * n + 64)) ∙ turns n
          where
            more : (n : ℕ) → 128 * suc n + 64 ≡ 128 * n + 64 + 128
            more n = omega arith

    -- 1 − g^(2m) = (1 − g^m)(1 + g^m)
    square : (m : ℕ) → one ⊕ neg (g (m + m)) ≡ (one ⊕ neg (g m)) ⊗ (one ⊕ g m)
    square m = ap (λ x. one ⊕ neg x) (hom m m) ∙ out (g m)
      where
        out : (x : Carrier) → one ⊕ neg (x ⊗ x) ≡ (one ⊕ neg x) ⊗ (one ⊕ x)
        out x = simp (ring, R) (sym (ap (λ y. x ⊕ y) (add_left_comm O R one (neg x) (neg (x ⊗ x))) ∙ add_neg_cancel O R x (one ⊕ neg (x ⊗ x))))

    -- doubled until it is an odd multiple of 64
    doubled : (t m : ℕ) → (2 ^ t * m) % 128 ≡ 0 → (m % 128 ≡ 0 → ⊥) → IsUnit O (one ⊕ neg (g m))
    doubled zero m h d = absurd (d (ap (λ x. x % 128) (sym (Nat.one-mul m)) ∙ h))
    doubled (suc t) m h d = go (ℕ_discrete (m % 128) 64) (doubled t (m + m))
      where
        out : (p m : ℕ) → p * (m + m) ≡ p * 2 * m
        out p m = omega arith

        again : 2 ^ t * (m + m) ≡ 2 ^ suc t * m
        again = out (2 ^ t) m ∙ ap (λ x. x * m) (sym (Nat.pow-suc 2 t))

        go : Dec (m % 128 ≡ 64) → ((2 ^ t * (m + m)) % 128 ≡ 0 → ((m + m) % 128 ≡ 0 → ⊥) → IsUnit O (one ⊕ neg (g (m + m)))) → IsUnit O (one ⊕ neg (g m))
        go (yes e) r = rw (minus_one m e, neg-neg O R one) two
        go (no e) r =
            unit_factor (one ⊕ neg (g m)) (one ⊕ g m)
            (rw (square m) at (r (ap (λ x. x % 128) again ∙ h) (λ z. half_multiple (m % 128) (Nat.mod-lt m (omega arith)) (sym (Nat.add-mod m m 128) ∙ z) d e)))

    -- 1 less a power, unless the power is 1
    one_less_power : (m : ℕ) → (m % 128 ≡ 0 → ⊥) → IsUnit O (one ⊕ neg (g m))
    one_less_power m d = doubled 7 m (omega arith) d

    -- a power
    pub power_unit : (m : ℕ) → m ≤ 128 → IsUnit O (g m)
    power_unit m h = (g (128 - m), sym (hom m (128 - m)) ∙ ap g (Nat.add-sub_of_le h) ∙ whole)

    -- the difference of two of 128 powers
    pub power_difference : (m n : ℕ) → m ≤ 128 → n ≤ 128 → m < n → n < m + 128 → IsUnit O (g m ⊕ neg (g n))
    power_difference m n h k l b = rw split (unit-mul (g m) (one ⊕ neg (g (n - m))) (power_unit m h) (one_less_power (n - m) (λ z. omega arith)))
      where
        out : (x y : Carrier) → x ⊕ neg (x ⊗ y) ≡ x ⊗ (one ⊕ neg y)
        out x y = simp (ring, R)

        split : g m ⊕ neg (g n) ≡ g m ⊗ (one ⊕ neg (g (n - m)))
        split = ap (λ x. g m ⊕ neg x) (ap g (sym (Nat.add-sub_of_le (Nat.le_of_lt l))) ∙ hom m (n - m)) ∙ out (g m) (g (n - m))
