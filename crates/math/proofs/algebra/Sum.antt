-- Finite sums in a commutative ring.
use mathlib.Core.Path.{◌≡◌, refl, sym, ap, ap₂, ◌∙◌}
use mathlib.Core.Logic.{◌≢◌}
use Prim.Native.Nat.{ℕ, zero, suc, ◌+◌, ◌-◌, ◌*◌, ◌<◌}
use native.Mathlib.Nat.{suc-mul}
use native.Mathlib.Nat as Nat
use native.Mathlib.Numerals.{add-one}
use native.Mathlib.Omega.{arith}
use Rattle.math.specs.algebra.Ops.{Ops, sum}
use Rattle.math.proofs.algebra.Ring.{CRing, ring, nil-add, add_add_add_comm, add-mul, mul-nil, nil-mul, neg_dist, neg-nil}

module _ (O : Ops) where
  open O use {Carrier, add as ◌⊕◌}

  infixl 60 ◌⊕◌
  -- one more term stands at the end
  pub sum-suc : (n : ℕ) (f : ℕ → Carrier) → sum O (n + 1) f ≡ sum O n f ⊕ f n
  unfolding sum
  sum-suc n f = rw add-one

  -- terms that agree below n give equal sums
  pub sum_ext : (n : ℕ) (f g : ℕ → Carrier) → ((i : ℕ) → i < n → f i ≡ g i) → sum O n f ≡ sum O n g
  unfolding sum
  sum_ext zero f g h = refl
  sum_ext (suc n) f g h = ap₂ ◌⊕◌ (sum_ext n f g (λ i l. h i (omega arith))) (h n (omega arith))

-- a function that keeps zero and addition keeps sums
pub sum-map : (O P : Ops) (φ : O.Carrier → P.Carrier) → φ O.nil ≡ P.nil → ((a b : O.Carrier) → φ (O.add a b) ≡ P.add (φ a) (φ b))
    → (n : ℕ) (f : ℕ → O.Carrier) → φ (sum O n f) ≡ sum P n (λ i. φ (f i))
unfolding sum
sum-map O P φ z s zero f = z
sum-map O P φ z s (suc n) f = s (sum O n f) (f n) ∙ ap (λ x. P.add x (φ (f n))) (sum-map O P φ z s n f)

module _ (O : Ops) (R : CRing O) where
  open O use {Carrier, add as ◌⊕◌, mul as ◌⊗◌, neg, nil, one}

  infixl 60 ◌⊕◌
  infixl 70 ◌⊗◌
  -- a sum of zeros
  pub sum-nil : (n : ℕ) → sum O n (λ i. nil) ≡ nil
  unfolding sum
  sum-nil zero = refl
  sum-nil (suc n) = R.add-nil (sum O n (λ i. nil)) ∙ sum-nil n

  -- a sum whose terms are zero
  pub sum_is-nil : (n : ℕ) (f : ℕ → Carrier) → ((i : ℕ) → i < n → f i ≡ nil) → sum O n f ≡ nil
  sum_is-nil n f h = sum_ext O n f (λ i. nil) h ∙ sum-nil n

  -- a sum of sums
  pub sum-add : (n : ℕ) (f g : ℕ → Carrier) → sum O n (λ i. f i ⊕ g i) ≡ sum O n f ⊕ sum O n g
  unfolding sum
  sum-add zero f g = sym (R.add-nil nil)
  sum-add (suc n) f g = ap (λ s. s ⊕ (f n ⊕ g n)) (sum-add n f g) ∙ add_add_add_comm O R (sum O n f) (sum O n g) (f n) (g n)

  -- a sum of negatives
  pub sum-neg : (n : ℕ) (f : ℕ → Carrier) → sum O n (λ i. neg (f i)) ≡ neg (sum O n f)
  sum-neg n f = sym (sum-map O O neg (neg-nil O R) (neg_dist O R) n f)

  -- a factor on the left
  pub sum-mul-left : (n : ℕ) (c : Carrier) (f : ℕ → Carrier) → sum O n (λ i. c ⊗ f i) ≡ c ⊗ sum O n f
  sum-mul-left n c f = sym (sum-map O O (λ x. c ⊗ x) (mul-nil O R c) (R.mul-add c) n f)

  -- a factor on the right
  pub sum-mul_right : (n : ℕ) (c : Carrier) (f : ℕ → Carrier) → sum O n (λ i. f i ⊗ c) ≡ sum O n f ⊗ c
  sum-mul_right n c f = sym (sum-map O O (λ x. x ⊗ c) (nil-mul O R c) (λ a b. add-mul O R a b c) n f)

  -- the order of summation is free
  pub sum-swap : (m n : ℕ) (f : ℕ → ℕ → Carrier) → sum O m (λ i. sum O n (λ j. f i j)) ≡ sum O n (λ j. sum O m (λ i. f i j))
  unfolding sum
  sum-swap zero n f = sym (sum-nil n)
  sum-swap (suc m) n f = ap (λ s. s ⊕ sum O n (f m)) (sum-swap m n f) ∙ sym (sum-add n (λ j. sum O m (λ i. f i j)) (f m))

  -- a sum split after its first m terms
  pub sum_split : (m n : ℕ) (f : ℕ → Carrier) → sum O (m + n) f ≡ sum O m f ⊕ sum O n (λ i. f (m + i))
  unfolding sum
  sum_split m zero f = ap (λ k. sum O k f) (Nat.add-zero m) ∙ sym (R.add-nil (sum O m f))
  sum_split m (suc n) f = ap (λ k. sum O k f) (Nat.add-suc m n) ∙ ap (λ s. s ⊕ f (m + n)) (sum_split m n f) ∙ R.add_assoc (sum O m f) (sum O n (λ i. f (m + i))) (f (m + n))

  -- the first term taken off
  pub sum_first : (n : ℕ) (f : ℕ → Carrier) → sum O (n + 1) f ≡ f 0 ⊕ sum O n (λ i. f (i + 1))
  unfolding sum
  sum_first n f = ap (λ k. sum O k f) (Nat.add_comm n 1) ∙ sum_split 1 n f ∙ ap (λ x. x ⊕ sum O n (λ i. f (1 + i))) (nil-add O R (f 0))
      ∙ ap (λ x. f 0 ⊕ x) (sum_ext O n (λ i. f (1 + i)) (λ i. f (i + 1)) (λ i l. ap f (Nat.add_comm 1 i)))

  -- the terms in reverse order
  pub sum-reverse : (n : ℕ) (f : ℕ → Carrier) → sum O n f ≡ sum O n (λ i. f (n - 1 - i))
  unfolding sum
  sum-reverse zero f = refl
  sum-reverse (suc n) f =
      ap (λ s. s ⊕ f n) (sum-reverse n f ∙ sum_ext O n (λ i. f (n - 1 - i)) (λ i. f (suc n - 1 - (i + 1))) (λ i l. ap f (omega arith)))
      ∙ R.add_comm (sum O n (λ i. f (suc n - 1 - (i + 1)))) (f n)
      ∙ ap (λ k. f k ⊕ sum O n (λ i. f (suc n - 1 - (i + 1)))) (sub-one-suc n)
      ∙ sym (sum_first n (λ i. f (suc n - 1 - i)))
      ∙ ap (λ k. sum O k (λ i. f (suc n - 1 - i))) (add-one n)
    where
      sub-one-suc : (m : ℕ) → m ≡ suc m - 1 - 0
      sub-one-suc m = omega arith

  -- a sum of which only term k is not zero
  pub sum_single : (n k : ℕ) (f : ℕ → Carrier) → k < n → ((i : ℕ) → i < n → i ≢ k → f i ≡ nil) → sum O n f ≡ f k
  sum_single n k f h z =
      ap (λ m. sum O m f) (place h)
      ∙ sum_split k (n - 1 - k + 1) f
      ∙ ap₂ ◌⊕◌ (sum_is-nil k f (λ i l. z i (omega arith) (omega arith))) (sum_first (n - 1 - k) (λ i. f (k + i)))
      ∙ nil-add O R (f (k + 0) ⊕ sum O (n - 1 - k) (λ i. f (k + (i + 1))))
      ∙ ap₂ ◌⊕◌ (ap f (Nat.add-zero k)) (sum_is-nil (n - 1 - k) (λ i. f (k + (i + 1))) (λ i l. z (k + (i + 1)) (omega arith) (omega arith)))
      ∙ R.add-nil (f k)
    where
      place : k < n → n ≡ k + (n - 1 - k + 1)
      place l = omega arith

  -- a sum over m rows of n entries each, numbered one after another
  pub sum_rows : (m n : ℕ) (f : ℕ → Carrier) → sum O (m * n) f ≡ sum O m (λ i. sum O n (λ j. f (i * n + j)))
  unfolding sum
  sum_rows zero n f = ap (λ k. sum O k f) (Nat.zero-mul n)
  sum_rows (suc m) n f = ap (λ k. sum O k f) (suc-mul m n) ∙ sum_split (m * n) n f ∙ ap (λ s. s ⊕ sum O n (λ j. f (m * n + j))) (sum_rows m n f)

  -- a sum over all pairs below n is the sum of its diagonal and of its pairs below the diagonal, taken both ways
  pub sum-triangle : (n : ℕ) (f : ℕ → ℕ → Carrier) → sum O n (λ i. sum O n (λ j. f i j)) ≡ sum O n (λ i. sum O i (λ j. f i j ⊕ f j i) ⊕ f i i)
  unfolding sum
  sum-triangle zero f = refl
  sum-triangle (suc n) f =
      ap (λ s. s ⊕ (sum O n (f n) ⊕ f n n)) (sum-add n (λ i. sum O n (f i)) (λ i. f i n) ∙ ap (λ s. s ⊕ sum O n (λ i. f i n)) (sum-triangle n f))
      ∙ regroup (sum O n (λ i. sum O i (λ j. f i j ⊕ f j i) ⊕ f i i)) (sum O n (λ i. f i n)) (sum O n (f n)) (f n n)
      ∙ ap (λ s. sum O n (λ i. sum O i (λ j. f i j ⊕ f j i) ⊕ f i i) ⊕ (s ⊕ f n n)) (sym (sum-add n (f n) (λ j. f j n)))
    where
      regroup : (s b a d : Carrier) → (s ⊕ b) ⊕ (a ⊕ d) ≡ s ⊕ ((a ⊕ b) ⊕ d)
      regroup s b a d = simp (ring, R)
