-- Terms of the projection's sums: entries times words, modulo Q.
use mathlib.Core.Path.{◌≡◌, sym, ap, ◌∙◌}
use mathlib.Core.Bool.{cond}
use Prim.Native.Nat.{ℕ, ◌+◌, ◌-◌, ◌*◌, ◌/◌, ◌%◌, ◌≤◌, ◌<◌}
use native.Mathlib.Nat.{one-mul, zero-mul, add-mul-mod_self_right}
use native.Mathlib.Omega.{arith}
use lib.Dec.{ltb}
use Rattle.math.specs.lists.Sum.{Σ}
use Rattle.math.proofs.lists.Sum.{Σ-mod_ext}
use Rattle.spec_leaves.specs.Zq.{Q, top_Q, zneg}
use Rattle.ring_zq.specs.Words.{lack}
use Rattle.spec_leaves.specs.Projection.{entry}
use Rattle.ring_zq.proofs.Words.{over, lack-le, lack-whole}
use Rattle.spec_leaves.proofs.Cases.{ltb_cases}
use Rattle.core_jl.specs.Rows.{term, flipped, is_negative, flip_Q}

-- (Q − 1)·x is what x lacks modulo Q
negative : (x : ℕ) → x ≤ 4294967295 → lack x % Q ≡ (top_Q * x) % Q
negative x h = sym (add-mul-mod_self_right (lack x) x Q) ∙ ap (λ y. y % Q) whole ∙ add-mul-mod_self_right (top_Q * x) (over x) Q
  where
    whole : lack x + x * Q ≡ top_Q * x + over x * Q
    whole = omega (arith, lack-whole x (omega arith))

-- a term is the entry times the word modulo Q
pub term-mod : (code x : ℕ) → x ≤ 4294967295 → term code x % Q ≡ (entry code * x) % Q
term-mod code x h =
    ltb_cases (λ t. cond t (lack x) (cond (ltb code 2147483648) x 0) % Q ≡ (cond t (zneg 1) (cond (ltb code 2147483648) 1 0) * x) % Q) code 1073741824
    (λ l. negative x h)
    (λ l. ltb_cases (λ t. cond t x 0 % Q ≡ (cond t 1 0 * x) % Q) code 2147483648 (λ m. ap (λ y. y % Q) (sym (one-mul x))) (λ m. ap (λ y. y % Q) (sym (zero-mul x))))

-- a term is a word
pub term-le : (code x : ℕ) → x ≤ 4294967295 → term code x ≤ 4294967295
term-le code x h =
    ltb_cases (λ t. cond t (lack x) (cond (ltb code 2147483648) x 0) ≤ 4294967295) code 1073741824
    (λ l. omega (arith, lack-le x))
    (λ l. ltb_cases (λ t. cond t x 0 ≤ 4294967295) code 2147483648 (λ m. h) (λ m. omega arith))

-- a flipped word, with what it lacks, is the entry times the word modulo Q
flipped-mod : (code x : ℕ) → x ≤ 4294967295 → (flipped code x + is_negative code * flip_Q) % Q ≡ (entry code * x) % Q
flipped-mod code x h =
    let b = ltb code 2147483648 in
    ltb_cases (λ t. (cond t (4294967295 - x) (cond b x 0) + cond t 1 (cond b 0 0) * flip_Q) % Q ≡ (cond t (zneg 1) (cond b 1 0) * x) % Q) code 1073741824
    (λ l. turned)
    (λ l. ltb_cases (λ t. (cond t x 0 + cond t 0 0 * flip_Q) % Q ≡ (cond t 1 0 * x) % Q) code 2147483648 (λ m. ap (λ y. y % Q) (plain x)) (λ m. ap (λ y. y % Q) (sym (zero-mul x))))
  where
    whole : 4294967295 - x + 1 * flip_Q + x * Q ≡ top_Q * x + (4294967295 + flip_Q) / Q * Q
    whole = omega arith

    turned : (4294967295 - x + 1 * flip_Q) % Q ≡ (top_Q * x) % Q
    turned = sym (add-mul-mod_self_right (4294967295 - x + 1 * flip_Q) x Q) ∙ ap (λ y. y % Q) whole ∙ add-mul-mod_self_right (top_Q * x) ((4294967295 + flip_Q) / Q) Q

    plain : (x : ℕ) → x + 0 * flip_Q ≡ 1 * x
    plain x = omega arith

-- the sum of the flipped words, with what they lack, is that of the products modulo Q
pub flipped-sum : (n : ℕ) (code word : ℕ → ℕ) → ((i : ℕ) → i < n → word i ≤ 4294967295)
    → Σ n (λ i. flipped (code i) (word i) + is_negative (code i) * flip_Q) % Q ≡ Σ n (λ i. entry (code i) * word i) % Q
flipped-sum n code word h =
    Σ-mod_ext n Q (λ i. flipped (code i) (word i) + is_negative (code i) * flip_Q) (λ i. entry (code i) * word i) (λ i l. flipped-mod (code i) (word i) (h i l))
