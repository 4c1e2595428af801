-- The kernel's sum for coefficient k is the definition's product at k.
use Rattle.std.proofs.Common.{◌≡◌, ℕ, ◌+◌, ◌-◌, ◌*◌, ◌%◌, ◌^◌, ◌<◌, ◌≤◌, List, length, get_or, sym, ap, ◌∙◌, ap₂, mul_comm, arith, le-ltb, lt-ltb}
use native.Mathlib.Decide.{dec_lt}
use Rattle.math.specs.lists.Sum.{Σ}
use Rattle.math.proofs.lists.Sum.{Σ_ext, Σ-add, Σ_split, Σ-mul-left}
use Rattle.math.proofs.lists.Table.{length-table, get_or-table}
use Rattle.spec_leaves.specs.Zq.{Q, zsub}
use Rattle.ring_zq.specs.Words.{lack}
use Rattle.spec_leaves.specs.Rq.{coeff, low, high, rmul}
use Rattle.ring_zq.proofs.Words.{over, lack-le, lack-whole}
use Rattle.ring_rq_product.specs.Product.{AllWords, extended, extended_coeff, reversed, Forms, folded}
use Rattle.ring_rq_product.proofs.Halves.{folded-mod}

-- the kernel's forms are of words
pub length-extended : (a : List ℕ) → length (extended a) ≡ 128
unfolding extended
length-extended a = length-table 128 (extended_coeff a)

pub length-reversed : (b : List ℕ) → length (reversed b) ≡ 64
unfolding reversed
length-reversed b = length-table 64 (λ i. coeff b (63 - i))

-- the first half has the coefficients of −a
extended-first : (a : List ℕ) (m : ℕ) → m < 64 → get_or (extended a) m 0 ≡ lack (coeff a m)
unfolding extended
extended-first a m h = get_or-table 128 (extended_coeff a) m 0 (omega arith) ∙ simp (lt-ltb m 64 h)

-- the second half those of a
extended_second : (a : List ℕ) (m : ℕ) → 64 ≤ m → m < 128 → get_or (extended a) m 0 ≡ coeff a (m - 64)
unfolding extended
extended_second a m l h = get_or-table 128 (extended_coeff a) m 0 h ∙ simp (le-ltb m 64 l)

at_reversed : (b : List ℕ) (i : ℕ) → i < 64 → get_or (reversed b) i 0 ≡ coeff b (63 - i)
unfolding reversed
at_reversed b i h = get_or-table 64 (λ i. coeff b (63 - i)) i 0 h

-- what a word lacks of Q and the word, times y, make a multiple of Q
term : (x y : ℕ) → x < 2 ^ 32 → y * lack x + x * y ≡ Q * (y * over x)
term x y h = omega (arith, ap (λ q. q * y) (lack-whole x h))

-- a sum whose first part and `high` make a multiple of Q
split : (total first second high lo y : ℕ) → total ≡ first + second → second ≡ lo → first + high ≡ Q * y
    → total % Q ≡ (lo + (Q - high % Q)) % Q
split total first second high lo y t s f = omega arith

module _ (a b : List ℕ) (words : (i : ℕ) → i < 64 → coeff a i < 2 ^ 32) (k : ℕ) (h : k < 64) where
  -- the kernel's term i for coefficient k
  kernel : ℕ → ℕ
  kernel i = get_or (reversed b) i 0 * get_or (extended a) (k + 1 + i) 0

  -- the terms that wrap
  wrapped : (i : ℕ) → i < 63 - k → kernel i ≡ coeff b (63 - i) * lack (coeff a (k + 1 + i))
  unfolding kernel
  wrapped i l = ap₂ ◌*◌ (at_reversed b i (omega arith)) (extended-first a (k + 1 + i) (omega arith))

  -- the terms that do not
  plain : (j : ℕ) → j < k + 1 → kernel (63 - k + j) ≡ coeff a j * coeff b (k - j)
  unfolding kernel
  plain j l =
      let x : 63 - (63 - k + j) ≡ k - j = omega arith in
      let y : k + 1 + (63 - k + j) - 64 ≡ j = omega arith in
      ap₂ ◌*◌
      (at_reversed b (63 - k + j) (omega arith) ∙ ap (coeff b) x)
      (extended_second a (k + 1 + (63 - k + j)) (omega arith) (omega arith) ∙ ap (coeff a) y)
      ∙ mul_comm (coeff b (k - j)) (coeff a j)

  -- the sum is the product's coefficient
  pub coefficient : Σ 64 (λ i. get_or (reversed b) i 0 * get_or (extended a) (k + 1 + i) 0) % Q ≡ zsub (low a b k) (high a b k)
  unfolding kernel low high
  coefficient =
      let n : 63 - k + (k + 1) ≡ 64 = omega arith in
      split
      (Σ 64 kernel)
      (Σ (63 - k) kernel)
      (Σ (k + 1) (λ j. kernel (63 - k + j)))
      (high a b k)
      (low a b k)
      (Σ (63 - k) (λ i. coeff b (63 - i) * over (coeff a (k + 1 + i))))
      (ap (λ m. Σ m kernel) (sym n) ∙ Σ_split (63 - k) (k + 1) kernel)
      (Σ_ext (k + 1) (λ j. kernel (63 - k + j)) (λ j. coeff a j * coeff b (k - j)) plain)
      (sym (Σ-add (63 - k) kernel (λ i. coeff a (k + 1 + i) * coeff b (63 - i)))
      ∙ Σ_ext (63 - k) (λ i. kernel i + coeff a (k + 1 + i) * coeff b (63 - i)) (λ i. Q * (coeff b (63 - i) * over (coeff a (k + 1 + i))))
      (λ i l. ap (λ t. t + coeff a (k + 1 + i) * coeff b (63 - i)) (wrapped i l) ∙ term (coeff a (k + 1 + i)) (coeff b (63 - i)) (words (k + 1 + i) (omega arith)))
      ∙ Σ-mul-left (63 - k) Q (λ i. coeff b (63 - i) * over (coeff a (k + 1 + i))))

-- what the kernel gives of both forms for coefficient k, reduced, is the product's
pub product_at : (x y a b : List ℕ) → Forms x y a b → (k : ℕ) → k < 64 → folded x y (k + 1) % Q ≡ coeff (rmul a b) k
unfolding rmul
product_at x y a b f k h =
    folded-mod x y (k + 1) ∙ rw (f.0, f.1) (coefficient a b f.2 k h) ∙ sym (get_or-table 64 (λ k. zsub (low a b k) (high a b k)) k 0 h)

-- both forms hold words
pub extended-words : (a : List ℕ) → ((i : ℕ) → i < 64 → coeff a i < 2 ^ 32) → AllWords (extended a)
extended-words a words i h = by i (rw (length-extended a) at h) (dec_lt i 64)
  where
    by : (i : ℕ) → i < 128 → Dec (i < 64) → get_or (extended a) i 0 < 2 ^ 32
    by i h (yes l) = omega (arith, extended-first a i l, lack-le (coeff a i))
    by i h (no l) = omega (arith, extended_second a i (omega arith) h, words (i - 64) (omega arith))

pub reversed-words : (b : List ℕ) → ((i : ℕ) → i < 64 → coeff b i < 2 ^ 32) → AllWords (reversed b)
reversed-words b words i h =
    let l : i < 64 = rw (length-reversed b) at h in
    omega (arith, at_reversed b i l, words (63 - i) (omega arith))

-- what the kernel asks of both forms
pub kernel_fits : (a b x y : List ℕ) → x ≡ reversed b → y ≡ extended a → ((i : ℕ) → i < 64 → coeff a i < 2 ^ 32) → ((i : ℕ) → i < 64 → coeff b i < 2 ^ 32)
    → (length x ≡ 64) × (length y ≡ 128) × AllWords x × AllWords y
kernel_fits a b x y ex ey wa wb = (ap length ex ∙ length-reversed b, ap length ey ∙ length-extended a, rw ex (reversed-words b wb), rw ey (extended-words a wa))
