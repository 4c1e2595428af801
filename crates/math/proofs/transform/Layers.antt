-- The six layers of the transform give the values at the odd powers of a root whose 64th power is −1, and each has an inverse up to a factor 2.
use mathlib.Core.Path.{◌≡◌, refl, sym, ap, ap₂, ◌∙◌}
use Prim.Native.Nat.{ℕ, zero, suc, ◌+◌, ◌-◌, ◌*◌, ◌/◌, ◌%◌, ◌<◌, ◌^◌}
use native.Mathlib.Nat as Nat
use native.Mathlib.Omega.{arith}
use lib.Dec.{eqb}
use Rattle.math.specs.algebra.Ops.{Ops, sum}
use Rattle.math.specs.transform.Layers.{pow, exponent, layer, layers}
use Rattle.math.proofs.transform.Computed.{below, below_at, agree}
use Rattle.math.proofs.algebra.Ring.{CRing, ring, neg-mul, nil-add}
use Rattle.math.proofs.algebra.Sum.{sum_ext, sum-add, sum_split}
use Rattle.math.proofs.algebra.Antiperiodic.{Antiperiodic}
use Rattle.math.proofs.transform.Evaluation.{eval}

-- the exponents have period 2^j in the index
periodic : (j i b : ℕ) → exponent j (2 ^ j * i + b) ≡ exponent j b
unfolding exponent
periodic zero i b = refl
periodic (suc j) i b =
    ap₂ (λ x y. exponent j x / 2 + 64 * y) (half (2 ^ suc j) (2 ^ j) (Nat.pow-suc 2 j)) (bit (2 ^ suc j) (2 ^ j) (Nat.pow-suc 2 j))
    ∙ ap (λ x. x / 2 + 64 * (b % 2)) (periodic j i (b / 2))
  where
    half : (p n : ℕ) → p ≡ n * 2 → (p * i + b) / 2 ≡ n * i + b / 2
    half p n e = omega (arith, ap (λ x. x * i) e)

    bit : (p n : ℕ) → p ≡ n * 2 → (p * i + b) % 2 ≡ b % 2
    bit p n e = omega (arith, ap (λ x. x * i) e)

-- the powers that layer j takes at t and at 31 − t make a half turn
complement : (j t : ℕ) → j < 6 → t < 32 → exponent j t / 2 + exponent j (31 - t) / 2 ≡ 64
unfolding exponent
complement j t hj ht =
    agree 32 (λ t. exponent j t / 2 + exponent j (31 - t) / 2) (λ t. 64) (below_at 6 (λ j. below 32 (λ t. eqb (exponent j t / 2 + exponent j (31 - t) / 2) 64)) tt j hj) t ht

-- the exponents on the way to entry k are multiples of its own, modulo whole turns
ways : (k : ℕ) → k < 64
    → (exponent 6 k * 32 % 128 ≡ exponent 1 (k / 2 / 2 / 2 / 2 / 2) % 128)
    × (exponent 6 k * 16 % 128 ≡ exponent 2 (k / 2 / 2 / 2 / 2) % 128)
    × (exponent 6 k * 8 % 128 ≡ exponent 3 (k / 2 / 2 / 2) % 128)
    × (exponent 6 k * 4 % 128 ≡ exponent 4 (k / 2 / 2) % 128)
    × (exponent 6 k * 2 % 128 ≡ exponent 5 (k / 2) % 128)
    × (exponent 6 k * 1 % 128 ≡ exponent 6 k % 128)
    × (exponent 6 k * 64 % 128 ≡ 64)
unfolding exponent
ways k h = (
  agree 64 (λ k. exponent 6 k * 32 % 128) (λ k. exponent 1 (k / 2 / 2 / 2 / 2 / 2) % 128) tt k h,
  agree 64 (λ k. exponent 6 k * 16 % 128) (λ k. exponent 2 (k / 2 / 2 / 2 / 2) % 128) tt k h,
  agree 64 (λ k. exponent 6 k * 8 % 128) (λ k. exponent 3 (k / 2 / 2 / 2) % 128) tt k h,
  agree 64 (λ k. exponent 6 k * 4 % 128) (λ k. exponent 4 (k / 2 / 2) % 128) tt k h,
  agree 64 (λ k. exponent 6 k * 2 % 128) (λ k. exponent 5 (k / 2) % 128) tt k h,
  agree 64 (λ k. exponent 6 k * 1 % 128) (λ k. exponent 6 k % 128) tt k h,
  agree 64 (λ k. exponent 6 k * 64 % 128) (λ k. 64) tt k h,
)

module _ (O : Ops) (R : CRing O) (g : O.Carrier) (root : pow O g 64 ≡ O.neg O.one) where
  open O use {Carrier, add as ◌⊕◌, mul as ◌⊗◌, neg, nil, one}

  infixl 60 ◌⊕◌
  infixl 70 ◌⊗◌
  -- g^(a + b) = g^a · g^b
  pub pow-add : (a b : ℕ) → pow O g (a + b) ≡ pow O g a ⊗ pow O g b
  unfolding pow
  pow-add a zero = ap (pow O g) (Nat.add-zero a) ∙ sym (R.mul-one (pow O g a))
  pow-add a (suc b) = ap (pow O g) (Nat.add-suc a b) ∙ ap (λ x. x ⊗ g) (pow-add a b) ∙ R.mul_assoc (pow O g a) (pow O g b) g

  -- half a turn is −1
  pub half_turn : (e : ℕ) → pow O g (e + 64) ≡ neg (pow O g e)
  half_turn e = pow-add e 64 ∙ ap (λ x. pow O g e ⊗ x) root ∙ signs (pow O g e)
    where
      signs : (x : Carrier) → x ⊗ neg one ≡ neg x
      signs x = simp (ring, R)

  -- whole turns leave a power as it is
  turns : (e q : ℕ) → pow O g (e + 128 * q) ≡ pow O g e
  turns e zero = ap (pow O g) (omega arith)
  turns e (suc q) = ap (pow O g) (more e q) ∙ half_turn (e + 128 * q + 64) ∙ ap neg (half_turn (e + 128 * q)) ∙ signs (pow O g (e + 128 * q)) ∙ turns e q
    where
      more : (e q : ℕ) → e + 128 * suc q ≡ e + 128 * q + 64 + 64
      more e q = omega arith

      signs : (x : Carrier) → neg (neg x) ≡ x
      signs x = simp (ring, R)

  -- exponents that are equal modulo 128 give equal powers
  pub pow-mod : (a b : ℕ) → a % 128 ≡ b % 128 → pow O g a ≡ pow O g b
  pow-mod a b e = ap (pow O g) (split a) ∙ turns (a % 128) (a / 128) ∙ ap (pow O g) e ∙ sym (ap (pow O g) (split b) ∙ turns (b % 128) (b / 128))
    where
      split : (a : ℕ) → a ≡ a % 128 + 128 * (a / 128)
      split a = omega arith

  -- one layer: the value of block b, of 2h coefficients, is that of its block b' of the next layer, of h coefficients
  stage : (j n h b b' e : ℕ) (f : ℕ → Carrier) → n * h ≡ 32 → b' / 2 ≡ b
      → ((i : ℕ) → exponent (suc j) (n * 2 * i + b') ≡ exponent (suc j) b')
      → e * h % 128 ≡ exponent (suc j) b' % 128
      → sum O (h + h) (λ i. f (n * i + b) ⊗ pow O g (e * i)) ≡ sum O h (λ i. layer O g j f (n * 2 * i + b') ⊗ pow O g (e * i))
  unfolding layer
  stage j n h b b' e f nh bb per ex =
      sum_split O R h h (λ i. f (n * i + b) ⊗ pow O g (e * i))
      ∙ sym (sum-add O R h (λ i. f (n * i + b) ⊗ pow O g (e * i)) (λ i. f (n * (h + i) + b) ⊗ pow O g (e * (h + i))))
      ∙ sum_ext O h (λ i. f (n * i + b) ⊗ pow O g (e * i) ⊕ f (n * (h + i) + b) ⊗ pow O g (e * (h + i)))
      (λ i. (f ((n * 2 * i + b') / 2) ⊕ pow O g (exponent (suc j) (n * 2 * i + b')) ⊗ f ((n * 2 * i + b') / 2 + 32)) ⊗ pow O g (e * i)) (λ i l. term i)
    where
      low : (i : ℕ) → n * i + b ≡ (n * 2 * i + b') / 2
      low i = omega arith

      high : (i : ℕ) → n * (h + i) + b ≡ (n * 2 * i + b') / 2 + 32
      high i = omega arith

      apart : (i : ℕ) → e * (h + i) ≡ e * h + e * i
      apart i = omega arith

      out : (x y u v : Carrier) → x ⊗ v ⊕ y ⊗ (u ⊗ v) ≡ (x ⊕ u ⊗ y) ⊗ v
      out x y u v = simp (ring, R)

      term : (i : ℕ) → f (n * i + b) ⊗ pow O g (e * i) ⊕ f (n * (h + i) + b) ⊗ pow O g (e * (h + i))
          ≡ (f ((n * 2 * i + b') / 2) ⊕ pow O g (exponent (suc j) (n * 2 * i + b')) ⊗ f ((n * 2 * i + b') / 2 + 32)) ⊗ pow O g (e * i)
      term i =
          ap₂ (λ x y. x ⊗ pow O g (e * i) ⊕ y ⊗ pow O g (e * (h + i))) (ap f (low i)) (ap f (high i))
          ∙ ap (λ x. f ((n * 2 * i + b') / 2) ⊗ pow O g (e * i) ⊕ f ((n * 2 * i + b') / 2 + 32) ⊗ x) (ap (pow O g) (apart i) ∙ pow-add (e * h) (e * i))
          ∙ out (f ((n * 2 * i + b') / 2)) (f ((n * 2 * i + b') / 2 + 32)) (pow O g (e * h)) (pow O g (e * i))
          ∙ ap (λ x. (f ((n * 2 * i + b') / 2) ⊕ x ⊗ f ((n * 2 * i + b') / 2 + 32)) ⊗ pow O g (e * i)) (pow-mod (e * h) (exponent (suc j) (n * 2 * i + b')) (ex ∙ ap (λ x. x % 128) (sym (per i))))

  -- entry k after six layers is the value at the power `exponent 6 k`
  pub layers_eval : (f : ℕ → Carrier) (k : ℕ) → k < 64 → layers O g 6 f k ≡ eval O 64 (λ i. pow O g (exponent 6 k * i)) f
  unfolding layers eval sum pow
  layers_eval f k l = sym (
      sum_ext O 64 (λ i. f i ⊗ pow O g (e * i)) (λ i. f (1 * i + k / 2 / 2 / 2 / 2 / 2 / 2) ⊗ pow O g (e * i)) (λ i m. ap (λ x. f x ⊗ pow O g (e * i)) (start i))
      ∙ stage 0 1 32 (k / 2 / 2 / 2 / 2 / 2 / 2) (k / 2 / 2 / 2 / 2 / 2) e (layers O g 0 f) refl refl (λ i. periodic 1 i (k / 2 / 2 / 2 / 2 / 2)) (ways k l).0
      ∙ stage 1 2 16 (k / 2 / 2 / 2 / 2 / 2) (k / 2 / 2 / 2 / 2) e (layers O g 1 f) refl refl (λ i. periodic 2 i (k / 2 / 2 / 2 / 2)) (ways k l).1
      ∙ stage 2 4 8 (k / 2 / 2 / 2 / 2) (k / 2 / 2 / 2) e (layers O g 2 f) refl refl (λ i. periodic 3 i (k / 2 / 2 / 2)) (ways k l).2
      ∙ stage 3 8 4 (k / 2 / 2 / 2) (k / 2 / 2) e (layers O g 3 f) refl refl (λ i. periodic 4 i (k / 2 / 2)) (ways k l).3
      ∙ stage 4 16 2 (k / 2 / 2) (k / 2) e (layers O g 4 f) refl refl (λ i. periodic 5 i (k / 2)) (ways k l).4
      ∙ stage 5 32 1 (k / 2) k e (layers O g 5 f) refl refl (λ i. periodic 6 i k) (ways k l).5
      ∙ last)
    where
      e : ℕ
      e = exponent 6 k

      start : (i : ℕ) → i ≡ 1 * i + k / 2 / 2 / 2 / 2 / 2 / 2
      start i = omega arith

      last : sum O 1 (λ i. layers O g 6 f (32 * 2 * i + k) ⊗ pow O g (e * i)) ≡ layers O g 6 f k
      last = nil-add O R (layers O g 6 f (32 * 2 * 0 + k) ⊗ pow O g (e * 0)) ∙ ap₂ (λ x y. layers O g 6 f x ⊗ pow O g y) (Nat.zero-add k) (Nat.mul-zero e) ∙ R.mul-one (layers O g 6 f k)

  -- the powers at entry k are those of a point whose 64th power is −1
  pub point_hom : (k i j : ℕ) → pow O g (exponent 6 k * (i + j)) ≡ pow O g (exponent 6 k * i) ⊗ pow O g (exponent 6 k * j)
  point_hom k i j = ap (pow O g) (Nat.mul-add (exponent 6 k) i j) ∙ pow-add (exponent 6 k * i) (exponent 6 k * j)

  pub point_anti : (k : ℕ) → k < 64 → Antiperiodic O 64 (λ i. pow O g (exponent 6 k * i))
  point_anti k l i = pow-mod (exponent 6 k * (i + 64)) (exponent 6 k * i + 64) (more (exponent 6 k) (ways k l).6) ∙ half_turn (exponent 6 k * i)
    where
      more : (e : ℕ) → e * 64 % 128 ≡ 64 → e * (i + 64) % 128 ≡ (e * i + 64) % 128
      more e h = whole (e * i + 64) (e * (i + 64)) (e * 64 / 128) (turned e h)
        where
          whole : (x y q : ℕ) → y ≡ x + 128 * q → y % 128 ≡ x % 128
          whole x y q e = omega arith

          turned : (e : ℕ) → e * 64 % 128 ≡ 64 → e * (i + 64) ≡ e * i + 64 + 128 * (e * 64 / 128)
          turned e h = omega arith

  -- what layer j gives at 2t and 2t + 1
  pub layer_even : (j : ℕ) (f : ℕ → Carrier) (t : ℕ) → layer O g j f (2 * t) ≡ f t ⊕ pow O g (exponent j t / 2) ⊗ f (t + 32)
  unfolding layer exponent
  layer_even j f t = ap₂ (λ x y. f x ⊕ pow O g (exponent j x / 2 + 64 * y) ⊗ f (x + 32)) (half t) (bit t) ∙ ap (λ x. f t ⊕ pow O g x ⊗ f (t + 32)) (Nat.add-zero (exponent j t / 2))
    where
      half : (t : ℕ) → 2 * t / 2 ≡ t
      half t = omega arith

      bit : (t : ℕ) → 2 * t % 2 ≡ 0
      bit t = omega arith

  pub layer_odd : (j : ℕ) (f : ℕ → Carrier) (t : ℕ) → layer O g j f (2 * t + 1) ≡ f t ⊕ neg (pow O g (exponent j t / 2) ⊗ f (t + 32))
  unfolding layer exponent
  layer_odd j f t =
      ap₂ (λ x y. f x ⊕ pow O g (exponent j x / 2 + 64 * y) ⊗ f (x + 32)) (half t) (bit t)
      ∙ ap (λ x. f t ⊕ x ⊗ f (t + 32)) (half_turn (exponent j t / 2))
      ∙ ap (λ x. f t ⊕ x) (neg-mul O R (pow O g (exponent j t / 2)) (f (t + 32)))
    where
      half : (t : ℕ) → (2 * t + 1) / 2 ≡ t
      half t = omega arith

      bit : (t : ℕ) → (2 * t + 1) % 2 ≡ 1
      bit t = omega arith

  -- the inverse of a layer: u and v are the entries 2t and 2t + 1, times c
  pub inverse-low : (j t : ℕ) (c u v : Carrier) (f : ℕ → Carrier) → u ≡ c ⊗ layer O g j f (2 * t) → v ≡ c ⊗ layer O g j f (2 * t + 1) → u ⊕ v ≡ (c ⊕ c) ⊗ f t
  inverse-low j t c u v f eu ev =
      ap₂ ◌⊕◌ (eu ∙ ap (λ x. c ⊗ x) (layer_even j f t)) (ev ∙ ap (λ x. c ⊗ x) (layer_odd j f t)) ∙ both c (f t) (pow O g (exponent j t / 2) ⊗ f (t + 32))
    where
      both : (c x y : Carrier) → c ⊗ (x ⊕ y) ⊕ c ⊗ (x ⊕ neg y) ≡ (c ⊕ c) ⊗ x
      both c x y = simp (ring, R)

  pub inverse-high : (j t : ℕ) (c u v : Carrier) (f : ℕ → Carrier) → j < 6 → t < 32 → u ≡ c ⊗ layer O g j f (2 * t) → v ≡ c ⊗ layer O g j f (2 * t + 1)
      → pow O g (exponent j (31 - t) / 2) ⊗ (v ⊕ neg u) ≡ (c ⊕ c) ⊗ f (t + 32)
  inverse-high j t c u v f hj ht eu ev =
      ap₂ (λ x y. w' ⊗ (y ⊕ neg x)) (eu ∙ ap (λ x. c ⊗ x) (layer_even j f t)) (ev ∙ ap (λ x. c ⊗ x) (layer_odd j f t))
      ∙ both c (f t) (f (t + 32)) w w'
      ∙ ap (λ x. neg ((c ⊕ c) ⊗ (x ⊗ f (t + 32)))) (sym (pow-add (exponent j t / 2) (exponent j (31 - t) / 2)) ∙ ap (pow O g) (complement j t hj ht) ∙ root)
      ∙ signs (c ⊕ c) (f (t + 32))
    where
      w : Carrier
      w = pow O g (exponent j t / 2)

      w' : Carrier
      w' = pow O g (exponent j (31 - t) / 2)

      both : (c x y w w' : Carrier) → w' ⊗ (c ⊗ (x ⊕ neg (w ⊗ y)) ⊕ neg (c ⊗ (x ⊕ w ⊗ y))) ≡ neg ((c ⊕ c) ⊗ (w ⊗ w' ⊗ y))
      both c x y w w' = simp (ring, R)

      signs : (c y : Carrier) → neg (c ⊗ (neg one ⊗ y)) ≡ c ⊗ y
      signs c y = simp (ring, R)
