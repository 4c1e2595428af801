-- The norm of a product: it grows by at most the square of the sum of the factor's sizes.
use mathlib.Core.Path.{◌≡◌, sym, ap, ap₂, subst, ◌∙◌}
use Prim.Native.Nat.{ℕ, zero, suc, ◌+◌, ◌-◌, ◌*◌, ◌%◌, ◌≤◌, ◌<◌}
use native.Mathlib.Nat.{le_refl, mul-le-mul, mul-le-mul_left}
use native.Mathlib.Omega.{arith}
use Rattle.math.specs.lists.Sum.{Σ}
use Rattle.math.proofs.lists.Sum.{Σ_ext, Σ-le, Σ-add, Σ-mul-left, Σ-mul_right, Σ-swap, Σ_split}
use Rattle.spec_leaves.specs.Zq.{Q, zsub, size}
use Rattle.spec_leaves.specs.Norm.{square, norm}
use Rattle.spec_leaves.specs.Rq.{Element, coeff, low, high, rmul}
use Rattle.spec_leaves.specs.Ring.{words, canonical_mod}
use Rattle.spec_leaves.proofs.Bridge.{coeff-canonical, words-mul}
use Rattle.spec_leaves.proofs.Challenge.{total}
use Rattle.spec_protocol.specs.Formulas.{◌⊗◌}
use Rattle.spec_protocol.proofs.Norms.{norm-table}
use Rattle.spec_protocol.proofs.Flat.{length-words}
use Rattle.spec_binding.proofs.Size.{twice_product}
use Rattle.spec_binding.proofs.Norm.{norm_of-words}
use Rattle.theorem_extraction.proofs.NormsWithin.{Within, size-within, size-least, within-sub, within-mul, within-Σ}

-- Cauchy and Schwarz with weights: (Σ w_i·x_i)² ≤ (Σ w_i)·(Σ w_i·x_i²)
pub cauchy_schwarz : (n : ℕ) (w x : ℕ → ℕ) → Σ n (λ i. w i * x i) * Σ n (λ i. w i * x i) ≤ Σ n w * Σ n (λ i. w i * (x i * x i))
unfolding Σ
cauchy_schwarz zero w x = le_refl 0
cauchy_schwarz (suc n) w x = step (Σ n (λ i. w i * x i)) (Σ n w) (Σ n (λ i. w i * (x i * x i))) (w n) (x n) (cauchy_schwarz n w x) (one_more (x n))
  where
    -- 2·C·y ≤ A + B·y² for each y
    one_more : (y : ℕ) → 2 * (Σ n (λ i. w i * x i) * y) ≤ Σ n (λ i. w i * (x i * x i)) + Σ n w * (y * y)
    one_more y =
        let each = Σ-le n (λ i. w i * x i * (2 * y)) (λ i. w i * (x i * x i) + w i * (y * y)) (λ i l. omega (arith, mul-le-mul_left (w i) (twice_product (x i) y))) in
        omega (arith, each, Σ-mul_right n (2 * y) (λ i. w i * x i), Σ-add n (λ i. w i * (x i * x i)) (λ i. w i * (y * y)), Σ-mul_right n (y * y) w)

    step : (C B A v y : ℕ) → C * C ≤ B * A → 2 * (C * y) ≤ A + B * (y * y) → (C + v * y) * (C + v * y) ≤ (B + v) * (A + v * (y * y))
    step C B A v y h k = omega (arith, h, mul-le-mul_left v k)

-- a sum over all places modulo 64, from any place on
Σ-turned : (s : ℕ) (f : ℕ → ℕ) → s ≤ 64 → Σ 64 (λ k. f ((k + s) % 64)) ≡ Σ 64 f
Σ-turned s f l =
    ap (λ n. Σ n (λ k. f ((k + s) % 64))) whole
    ∙ Σ_split (64 - s) s (λ k. f ((k + s) % 64))
    ∙ ap₂ ◌+◌
    (Σ_ext (64 - s) (λ k. f ((k + s) % 64)) (λ k. f (s + k)) (λ k h. ap f (omega arith)))
    (Σ_ext s (λ k. f ((64 - s + k + s) % 64)) f (λ k h. ap f (omega arith)))
    ∙ other (Σ (64 - s) (λ k. f (s + k))) (Σ s f)
    ∙ sym (Σ_split s (64 - s) f)
    ∙ ap (λ n. Σ n f) back
  where
    whole : 64 ≡ 64 - s + s
    whole = omega arith

    back : s + (64 - s) ≡ 64
    back = omega arith

    other : (x y : ℕ) → x + y ≡ y + x
    other x y = omega arith

-- a product's coefficient k takes a_(k − i) with d_i, of places modulo 64
abbrev turned : ℕ → ℕ → ℕ
turned k i = (k + (64 - i)) % 64

-- the convolution of the sizes
abbrev sizes_product : Element → Element → ℕ → ℕ
sizes_product d a k = Σ 64 (λ i. size (coeff (words d) i) * size (coeff (words a) (turned k i)))

-- the size of a product's coefficient is at most that
size_product : (d a : Element) (k : ℕ) → k < 64 → size (zsub (low (words d) (words a) k) (high (words d) (words a) k)) ≤ sizes_product d a k
unfolding low high
size_product d a k l =
    size-least (zsub (low (words d) (words a) k) (high (words d) (words a) k)) (sizes_product d a k) (canonical_mod (low (words d) (words a) k + (Q - high (words d) (words a) k % Q)))
    (subst (Within (zsub (low (words d) (words a) k) (high (words d) (words a) k))) (sym both) (within-sub (low (words d) (words a) k) (high (words d) (words a) k) lows highs
    (within-Σ (k + 1) (λ i. coeff (words d) i * coeff (words a) (k - i)) (λ i. D i * A (k - i)) (λ i h. term i (k - i)))
    (within-Σ (63 - k) (λ i. coeff (words d) (k + 1 + i) * coeff (words a) (63 - i)) (λ i. D (k + 1 + i) * A (63 - i)) (λ i h. term (k + 1 + i) (63 - i)))))
  where
    D : ℕ → ℕ
    D i = size (coeff (words d) i)

    A : ℕ → ℕ
    A i = size (coeff (words a) i)

    lows : ℕ
    lows = Σ (k + 1) (λ i. D i * A (k - i))

    highs : ℕ
    highs = Σ (63 - k) (λ i. D (k + 1 + i) * A (63 - i))

    term : (i j : ℕ) → Within (coeff (words d) i * coeff (words a) j) (D i * A j)
    term i j = within-mul (coeff (words d) i) (coeff (words a) j) (D i) (A j) (size-within (coeff (words d) i) (coeff-canonical d i)) (size-within (coeff (words a) j) (coeff-canonical a j))

    whole : 64 ≡ k + 1 + (63 - k)
    whole = omega arith

    both : Σ 64 (λ i. D i * A (turned k i)) ≡ lows + highs
    both =
        ap (λ n. Σ n (λ i. D i * A (turned k i))) whole
        ∙ Σ_split (k + 1) (63 - k) (λ i. D i * A (turned k i))
        ∙ ap₂ ◌+◌
        (Σ_ext (k + 1) (λ i. D i * A (turned k i)) (λ i. D i * A (k - i)) (λ i h. ap (λ j. D i * A j) (omega arith)))
        (Σ_ext (63 - k) (λ i. D (k + 1 + i) * A (turned k (k + 1 + i))) (λ i. D (k + 1 + i) * A (63 - i)) (λ i h. ap (λ j. D (k + 1 + i) * A j) (omega arith)))

-- the squares of those convolutions, over all coefficients
squares_of-products : (d a : Element) → Σ 64 (λ k. sizes_product d a k * sizes_product d a k) ≤ total size (words d) * (total size (words d) * norm (words a))
squares_of-products d a =
    let bounded = Σ-le 64 (λ k. sizes_product d a k * sizes_product d a k) (λ k. S * Σ 64 (λ i. D i * N (turned k i))) (λ k l. cauchy_schwarz 64 D (λ i. size (coeff (words a) (turned k i)))) in
    omega (
      arith,
      bounded,
      Σ-mul-left 64 S (λ k. Σ 64 (λ i. D i * N (turned k i))),
      ap (λ x. S * x) (exchanged ∙ ap (λ x. S * x) (sym (norm_of-words a))),
      ap (λ x. x * (x * norm (words a))) sum_of_sizes,
    )
  where
    D : ℕ → ℕ
    D i = size (coeff (words d) i)

    N : ℕ → ℕ
    N j = square (coeff (words a) j)

    S : ℕ
    S = Σ 64 D

    sum_of_sizes : total size (words d) ≡ S
    sum_of_sizes = ap (λ n. Σ n D) (length-words d)

    exchanged : Σ 64 (λ k. Σ 64 (λ i. D i * N (turned k i))) ≡ S * Σ 64 N
    exchanged =
        Σ-swap 64 64 (λ k i. D i * N (turned k i))
        ∙ Σ_ext 64 (λ i. Σ 64 (λ k. D i * N (turned k i))) (λ i. D i * Σ 64 N) (λ i l. Σ-mul-left 64 (D i) (λ k. N (turned k i)) ∙ ap (λ x. D i * x) (Σ-turned (64 - i) N (omega arith)))
        ∙ Σ-mul_right 64 (Σ 64 N) D

-- the norm of a product with an element whose sizes sum to at most S is at most S² times the norm
pub product_norm : (S : ℕ) (d a : Element) → total size (words d) ≤ S → norm (words (d ⊗ a)) ≤ S * S * norm (words a)
unfolding rmul
product_norm S d a h =
    let c : ℕ → ℕ = λ k. zsub (low (words d) (words a) k) (high (words d) (words a) k) in
    let each = Σ-le 64 (λ k. square (c k)) (λ k. sizes_product d a k * sizes_product d a k) (λ k l. mul-le-mul (size_product d a k l) (size_product d a k l)) in
    omega (
      arith,
      ap norm (words-mul d a) ∙ norm-table 64 c,
      each,
      squares_of-products d a,
      mul-le-mul h (mul-le-mul h (le_refl (norm (words a)))),
    )
