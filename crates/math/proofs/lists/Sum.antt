-- Laws of finite sums of natural numbers.
use mathlib.Core.Path.{◌≡◌, refl, sym, ap, ap₂, ◌∙◌}
use mathlib.Core.Bool.{cond}
use mathlib.Core.Logic.{◌⊎◌, inl, inr}
use Prim.Native.Nat.{ℕ, zero, suc, ◌+◌, ◌-◌, ◌*◌, ◌/◌, ◌%◌, ◌≤◌, ◌<◌}
use native.Mathlib.Nat.{not-suc-le-zero, eq-or-lt_of_le, add-zero, add-suc, add_comm, add_assoc, add-sub_of_le, zero-mul, mul-zero, le_refl, add-mod-mod, mod-add-mod}
use native.Mathlib.Numerals.{add-one}
use native.Mathlib.Omega.{arith}
use borrow.Author.Tests.{eq-eqb, ne_eqb}
use lib.Dec.{eqb}
use Rattle.math.specs.lists.Sum.{Σ}

-- one more term stands at the end
pub Σ-suc : (n : ℕ) (f : ℕ → ℕ) → Σ (n + 1) f ≡ Σ n f + f n
unfolding Σ
Σ-suc n f = rw add-one

-- terms that agree below n give equal sums
pub Σ_ext : (n : ℕ) (f g : ℕ → ℕ) → ((i : ℕ) → i < n → f i ≡ g i) → Σ n f ≡ Σ n g
unfolding Σ
Σ_ext zero f g h = refl
Σ_ext (suc n) f g h = ap₂ ◌+◌ (Σ_ext n f g (λ i l. h i (omega arith))) (h n (omega arith))

-- a sum of zeros
pub Σ_zero : (n : ℕ) → Σ n (λ i. 0) ≡ 0
unfolding Σ
Σ_zero zero = refl
Σ_zero (suc n) = add-zero (Σ n (λ i. 0)) ∙ Σ_zero n

-- a sum of n equal terms
pub Σ_const : (n c : ℕ) → Σ n (λ i. c) ≡ n * c
unfolding Σ
Σ_const zero c = sym (zero-mul c)
Σ_const (suc n) c = ap (λ s. s + c) (Σ_const n c) ∙ omega arith

-- twice 1 + 2 + … + n
twice-triangle : (n : ℕ) → 2 * Σ n (λ i. i + 1) ≡ n * (n + 1)
unfolding Σ
twice-triangle zero = refl
twice-triangle (suc n) = omega (arith, twice-triangle n)

-- 1 + 2 + … + n
pub Σ-triangle : (n : ℕ) → Σ n (λ i. i + 1) ≡ n * (n + 1) / 2
Σ-triangle n = omega (arith, twice-triangle n)

-- a sum of sums
pub Σ-add : (n : ℕ) (f g : ℕ → ℕ) → Σ n (λ i. f i + g i) ≡ Σ n f + Σ n g
unfolding Σ
Σ-add zero f g = refl
Σ-add (suc n) f g = ap (λ s. s + (f n + g n)) (Σ-add n f g) ∙ omega arith

-- a factor on the left
pub Σ-mul-left : (n c : ℕ) (f : ℕ → ℕ) → Σ n (λ i. c * f i) ≡ c * Σ n f
unfolding Σ
Σ-mul-left zero c f = sym (mul-zero c)
Σ-mul-left (suc n) c f = ap (λ s. s + c * f n) (Σ-mul-left n c f) ∙ omega arith

-- a factor on the right
pub Σ-mul_right : (n c : ℕ) (f : ℕ → ℕ) → Σ n (λ i. f i * c) ≡ Σ n f * c
unfolding Σ
Σ-mul_right zero c f = sym (zero-mul c)
Σ-mul_right (suc n) c f = ap (λ s. s + f n * c) (Σ-mul_right n c f) ∙ omega arith

-- the order of summation is free
pub Σ-swap : (m n : ℕ) (f : ℕ → ℕ → ℕ) → Σ m (λ i. Σ n (λ j. f i j)) ≡ Σ n (λ j. Σ m (λ i. f i j))
unfolding Σ
Σ-swap zero n f = sym (Σ_zero n)
Σ-swap (suc m) n f = ap (λ s. s + Σ n (f m)) (Σ-swap m n f) ∙ sym (Σ-add n (λ j. Σ m (λ i. f i j)) (f m))

-- a sum split after its first m terms
pub Σ_split : (m n : ℕ) (f : ℕ → ℕ) → Σ (m + n) f ≡ Σ m f + Σ n (λ i. f (m + i))
unfolding Σ
Σ_split m zero f = ap (λ k. Σ k f) (add-zero m) ∙ sym (add-zero (Σ m f))
Σ_split m (suc n) f = ap (λ k. Σ k f) (add-suc m n) ∙ ap (λ s. s + f (m + n)) (Σ_split m n f) ∙ add_assoc (Σ m f) (Σ n (λ i. f (m + i))) (f (m + n))

-- the first term taken off
pub Σ-first : (n : ℕ) (f : ℕ → ℕ) → Σ (n + 1) f ≡ f 0 + Σ n (λ i. f (i + 1))
unfolding Σ
Σ-first zero f = omega arith
Σ-first (suc n) f = rw (add-one (suc n)) (ap (λ s. s + f (suc n)) (rw add-one at (Σ-first n f)) ∙ ap (λ k. f 0 + Σ n (λ i. f (i + 1)) + f k) (sym (add-one n))
    ∙ add_assoc (f 0) (Σ n (λ i. f (i + 1))) (f (n + 1)))

-- the terms in reverse order
pub Σ-reverse : (n : ℕ) (f : ℕ → ℕ) → Σ n f ≡ Σ n (λ i. f (n - 1 - i))
unfolding Σ
Σ-reverse zero f = refl
Σ-reverse (suc n) f =
    ap (λ s. s + f n) (Σ-reverse n f ∙ Σ_ext n (λ i. f (n - 1 - i)) (λ i. f (suc n - 1 - (i + 1))) (λ i l. ap f (omega arith)))
    ∙ add_comm (Σ n (λ i. f (suc n - 1 - (i + 1)))) (f n)
    ∙ ap (λ k. f k + Σ n (λ i. f (suc n - 1 - (i + 1)))) (sub-one-suc n)
    ∙ sym (rw add-one at (Σ-first n (λ i. f (suc n - 1 - i))))
  where
    sub-one-suc : (m : ℕ) → m ≡ suc m - 1 - 0
    sub-one-suc m = omega arith

-- terms below those of another sum give a smaller sum
pub Σ-le : (n : ℕ) (f g : ℕ → ℕ) → ((i : ℕ) → i < n → f i ≤ g i) → Σ n f ≤ Σ n g
unfolding Σ
Σ-le zero f g h = le_refl 0
Σ-le (suc n) f g h = omega (arith, Σ-le n f g (λ i l. h i (omega arith)), h n (omega arith))

-- n terms of at most c each
pub Σ-bound : (n c : ℕ) (f : ℕ → ℕ) → ((i : ℕ) → i < n → f i ≤ c) → Σ n f ≤ n * c
Σ-bound n c f h = rw (Σ_const n c) at (Σ-le n f (λ i. c) h)

-- a shorter sum is at most a longer one
pub Σ_mono : (m n : ℕ) (f : ℕ → ℕ) → m ≤ n → Σ m f ≤ Σ n f
Σ_mono m n f h = omega (arith, ap (λ k. Σ k f) (add-sub_of_le h), Σ_split m (n - m) f)

-- one term is at most the sum
pub Σ-term : (n : ℕ) (f : ℕ → ℕ) (i : ℕ) → i < n → f i ≤ Σ n f
Σ-term n f i h = omega (arith, Σ-suc i f, Σ_mono (i + 1) n f (omega arith))

-- a place within term i, counted from the first term on, is below the sum
pub Σ-within : (n : ℕ) (f : ℕ → ℕ) (i j : ℕ) → i < n → j < f i → Σ i f + j < Σ n f
Σ-within n f i j h l = omega (arith, Σ-suc i f, Σ_mono (i + 1) n f (omega arith))

-- terms reduced modulo q leave the sum the same modulo q
pub Σ-mod : (n q : ℕ) (f : ℕ → ℕ) → Σ n (λ i. f i % q) % q ≡ Σ n f % q
unfolding Σ
Σ-mod zero q f = refl
Σ-mod (suc n) q f = add-mod-mod (Σ n (λ i. f i % q)) (f n) q ∙ sym (mod-add-mod (Σ n (λ i. f i % q)) q (f n)) ∙ ap (λ s. (s + f n) % q) (Σ-mod n q f) ∙ mod-add-mod (Σ n f) q (f n)

-- terms that agree modulo q give sums that agree modulo q
pub Σ-mod_ext : (n q : ℕ) (f g : ℕ → ℕ) → ((i : ℕ) → i < n → f i % q ≡ g i % q) → Σ n f % q ≡ Σ n g % q
Σ-mod_ext n q f g h = sym (Σ-mod n q f) ∙ ap (λ s. s % q) (Σ_ext n (λ i. f i % q) (λ i. g i % q) h) ∙ Σ-mod n q g

-- a sum with one value changed
pub Σ-changed : (n i : ℕ) (w b : ℕ → ℕ) (v : ℕ) → i < n → Σ n (λ m. w m * cond (eqb m i) v (b m)) + w i * b i ≡ Σ n (λ m. w m * b m) + w i * v
unfolding Σ
Σ-changed zero i w b v h = absurd (not-suc-le-zero h)
Σ-changed (suc n) i w b v h = go (eq-or-lt_of_le h) (Σ-changed n i w b v)
  where
    -- a value at another index
    other : (m : ℕ) → (m ≡ i → ⊥) → w m * cond (eqb m i) v (b m) ≡ w m * b m
    other m d = ap (λ t. w m * cond t v (b m)) (ne_eqb m i d)

    swap : (s x y : ℕ) → s + x + y ≡ s + y + x
    swap s x y = omega arith

    next : (s s' x y z : ℕ) → s + x ≡ s' + y → s + z + x ≡ s' + z + y
    next s s' x y z e = omega arith

    go : (suc i ≡ suc n) ⊎ (suc i < suc n) → (i < n → Σ n (λ m. w m * cond (eqb m i) v (b m)) + w i * b i ≡ Σ n (λ m. w m * b m) + w i * v)
        → Σ n (λ m. w m * cond (eqb m i) v (b m)) + w n * cond (eqb n i) v (b n) + w i * b i ≡ Σ n (λ m. w m * b m) + w n * b n + w i * v
    go (inl p) ih =
        let e : n ≡ i = omega arith in
        ap₂ (λ s t. s + w n * cond t v (b n) + w i * b i) (Σ_ext n (λ m. w m * cond (eqb m i) v (b m)) (λ m. w m * b m) (λ m k. other m (λ q. omega arith))) (eq-eqb n i e)
        ∙ swap (Σ n (λ m. w m * b m)) (w n * v) (w i * b i)
        ∙ ap₂ (λ x y. Σ n (λ m. w m * b m) + w x * b x + w y * v) (sym e) e
    go (inr k) ih =
        let d : n ≡ i → ⊥ = λ q. omega arith in
        ap (λ z. Σ n (λ m. w m * cond (eqb m i) v (b m)) + z + w i * b i) (other n d)
        ∙ next (Σ n (λ m. w m * cond (eqb m i) v (b m))) (Σ n (λ m. w m * b m)) (w i * b i) (w i * v) (w n * b n) (ih (omega arith))
