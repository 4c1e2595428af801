-- The number that the CRT gives is the one whose remainders they are, modulo Q.
use mathlib.Core.Path.{◌≡◌, sym, ap, ◌∙◌}
use Prim.Native.Nat.{ℕ, ◌+◌, ◌-◌, ◌*◌, ◌/◌, ◌%◌, ◌<◌}
use native.Mathlib.Nat.{add-mul-mod_self_left, mod-eq_of_lt}
use native.Mathlib.Omega.{arith}
use Rattle.spec_leaves.specs.Zq.{Q}
use Rattle.ntt_product.specs.Crt.{middle_of, top_of, pair_Q, crt_of}

-- numbers that differ by multiples of p have the same remainder
alike : (p a b u v : ℕ) → a + p * u ≡ b + p * v → a % p ≡ b % p
alike p a b u v e = sym (add-mul-mod_self_left a p u) ∙ ap (λ x. x % p) e ∙ add-mul-mod_self_left b p v

-- the second digit, where the number is first + 134217089·x
middle_is : (n first second x : ℕ) → n ≡ first + 134217089 * x → first < 134217089 → second ≡ n % 134215681 → middle_of first second ≡ x % 134215681
middle_is n first second x e l s =
    alike 134215681 ((second + 268431362 - first) * 36508953) x (n / 134215681 * 36508953) (36509336 * x + 2 * 36508953) (omega arith)

-- the third digit, where the number is first + 134217089·middle + 134217089·134215681·y
top_is : (n first middle third y : ℕ) → n ≡ first + 134217089 * middle + 18014038001972609 * y → first < 134217089 → middle < 134215681 → third ≡ n % 134215553
    → top_of first middle third ≡ y % 134215553
top_is n first middle third y e l m s =
    alike 134215553 ((third + 268431106 - first) * 32067747 + (268431106 - middle) * 133166994) y (n / 134215553 * 32067747)
    (4304043757847074 * y + 32068113 * middle + 2 * 32067747 + 2 * 133166994) (omega arith)

-- the number modulo Q
pub crt_is : (n first second third : ℕ) → n < 2417764072197768807787777 → first ≡ n % 134217089 → second ≡ n % 134215681 → third ≡ n % 134215553 → crt_of first second third ≡ n % Q
unfolding crt_of
crt_is n first second third l f s t =
    digits (n / 134217089) (n / 134217089 % 134215681) (n / 134217089 / 134215681) (omega arith) (omega arith) (omega arith) (omega arith) (omega arith)
  where
    digits : (x m y : ℕ) → n ≡ first + 134217089 * x → x ≡ m + 134215681 * y → m < 134215681 → y < 134215553 → first < 134217089 → crt_of first second third ≡ n % Q
    digits x m y e d hm hy hf =
        let mid : middle_of first second ≡ m = middle_is n first second x e hf s ∙ alike 134215681 x m 0 y (omega arith) ∙ mod-eq_of_lt hm in
        let high : top_of first m third ≡ y = top_is n first m third y (omega arith) hf hm t ∙ mod-eq_of_lt hy in
        ap (λ v. (first + 134217089 * v + pair_Q * top_of first v third) % Q) mid
        ∙ ap (λ v. (first + 134217089 * m + pair_Q * v) % Q) high
        ∙ alike Q (first + 134217089 * m + pair_Q * y) n (18014038001972609 / Q * y) 0 (omega arith)
