-- Laws of the digit rule: sizes, what the digits sum to, and how many parts leave nothing.
use mathlib.Core.Path.{◌≡◌, refl, sym, ap, ap₂, ◌∙◌}
use mathlib.Core.Bool.{Bool, true, false, cond, xor}
use mathlib.Core.Logic.{◌↔◌}
use Prim.Native.Nat.{ℕ, zero, suc, ◌+◌, ◌-◌, ◌*◌, ◌/◌, ◌%◌, ◌^◌, ◌≤◌, ◌<◌, suc-le-suc}
use native.Mathlib.Nat.{le_refl, mod-le, mod-lt, div-zero, div-le_self, div-add-mod', zero-mod, zero-div, add-mul-mod_self_right, pow-suc, pow-zero, mul-one, add-zero}
use native.Mathlib.Nat.{add-suc, mul-le-mul_right, mul-le-mul_left, lt_of_not-le, le_of_suc-le-suc, not-suc-le-zero}
use native.Mathlib.Numerals.{add-one}
use native.Mathlib.Omega.{arith}
use lib.Dec.{ltb}
use lib.ListN.{length, get_or}
use borrow.Author.Tests.{le-ltb}
use Rattle.math.specs.lists.Sum.{Σ}
use Rattle.math.proofs.lists.Table.{length-table, get_or-table}
use Rattle.spec_leaves.specs.Zq.{Q, top_Q, half_Q, Canonical, zneg, is_larger_than_half, size}
use Rattle.spec_leaves.specs.Digits.{rem_below, rem_size, next_size, size_after, signed, digit, digits, leftover, rest}
use Rattle.spec_leaves.proofs.Cases.{ltb_cases}
use Rattle.spec_leaves.proofs.Centre.{size-le, signed-size, size-signed, signed-canonical}

-- a remainder's size is at most b/2 rounded down
pub rem_size-le : (b s : ℕ) → 0 < b → rem_size b s ≤ b / 2
rem_size-le b s p = let l : s % b < b = mod-lt s p in ltb_cases (λ t. cond t (b - s % b) (s % b) ≤ b / 2) (b / 2) (s % b) (λ h. omega arith) (λ h. h)

-- "size becomes (size − rem)/b": the size is the next size times b and the remainder with its sign
pub next_is : (b s : ℕ) → 0 < b → s + cond (rem_below b s) (rem_size b s) 0 ≡ next_size b s * b + cond (rem_below b s) 0 (rem_size b s)
next_is b s p =
    let l : s % b < b = mod-lt s p in
    let e : s / b * b + s % b ≡ s = div-add-mod' s b in
    ltb_cases
    (λ t. s + cond t (cond t (b - s % b) (s % b)) 0 ≡ cond t (s / b + 1) (s / b) * b + cond t 0 (cond t (b - s % b) (s % b)))
    (b / 2)
    (s % b)
    (λ h. omega arith)
    (λ h. omega arith)

-- a value and its negative sum to a multiple of Q
zneg-sum : (n : ℕ) → zneg n + n ≡ (zneg n + n) / Q * Q
zneg-sum n = omega arith

-- the same, times b
pub zneg-times : (n b : ℕ) → zneg n * b + n * b ≡ (zneg n + n) / Q * b * Q
zneg-times n b = omega (arith, ap (λ x. x * b) (zneg-sum n))

-- one digit and the size that goes on, with the value's sign, make up the size before it modulo Q
step : (t below : Bool) (b s next rem : ℕ) → s + cond below rem 0 ≡ next * b + cond below 0 rem → (signed (xor t below) rem + signed t next * b) % Q ≡ signed t s % Q
unfolding xor
step false false b s next rem e = omega arith
step false true b s next rem e = omega (arith, zneg-sum rem)
step true false b s next rem e = omega (arith, zneg-sum rem, zneg-times next b, zneg-sum s)
step true true b s next rem e = omega (arith, zneg-times next b, zneg-sum s)

-- equal modulo Q, and so in a sum with a factor
under-sum : (x y c before : ℕ) → x % Q ≡ y % Q → (before + x * c) % Q ≡ (before + y * c) % Q
under-sum x y c before e = reduced x ∙ ap (λ z. (before + z * c) % Q) e ∙ sym (reduced y)
  where
    reduced : (z : ℕ) → (before + z * c) % Q ≡ (before + z % Q * c) % Q
    reduced z =
        let e : before + z * c ≡ before + z % Q * c + z / Q * c * Q = omega (arith, ap (λ w. w * c) (div-add-mod' z Q)) in
        ap (λ w. w % Q) e ∙ add-mul-mod_self_right (before + z % Q * c) (z / Q * c) Q

-- the digits with their weights and what is left over, with the value's sign, make up the value modulo Q
pub digits_sum : (b n a : ℕ) → 0 < b → Canonical a → (Σ n (λ k. digit b a k * b ^ k) + signed (is_larger_than_half a) (leftover b n a) * b ^ n) % Q ≡ a
unfolding Σ leftover size_after digit
digits_sum b zero a p h =
    let t = is_larger_than_half a in
    let e : signed t (size a) * b ^ 0 ≡ a = ap₂ ◌*◌ (signed-size a h) (pow-zero b) ∙ mul-one a in
    omega arith
digits_sum b (suc n) a p h =
    let t = is_larger_than_half a in
    let s = size_after b n (size a) in
    let before = Σ n (λ k. digit b a k * b ^ k) in
    ap (λ x. x % Q) (regroup before (digit b a n) (signed t (next_size b s)))
    ∙ under-sum (digit b a n + signed t (next_size b s) * b) (signed t s) (b ^ n) before (step t (rem_below b s) b s (next_size b s) (rem_size b s) (next_is b s p))
    ∙ digits_sum b n a p h
  where
    regroup : (x d s : ℕ) → x + d * b ^ n + s * b ^ suc n ≡ x + (d + s * b) * b ^ n
    regroup x d s = omega (arith, ap (λ w. s * w) (pow-suc b n))

-- −0 is 0
signed_zero : (t : Bool) → signed t 0 ≡ 0
signed_zero true = refl
signed_zero false = refl

-- where nothing is left over, the digits alone make up the value modulo Q
pub digits-whole : (b n a : ℕ) → 0 < b → Canonical a → leftover b n a ≡ 0 → Σ n (λ k. digit b a k * b ^ k) % Q ≡ a
digits-whole b n a p h e =
    let t = is_larger_than_half a in
    let none : signed t (leftover b n a) ≡ 0 = ap (signed t) e ∙ signed_zero t in
    let alone : Σ n (λ k. digit b a k * b ^ k) + signed t (leftover b n a) * b ^ n ≡ Σ n (λ k. digit b a k * b ^ k) = omega (arith, ap (λ x. x * b ^ n) none) in
    ap (λ x. x % Q) (sym alone) ∙ digits_sum b n a p h

-- what is not above m is at most m
not_above : {x m : ℕ} → ¬ (m < x) → x ≤ m
not_above h = le_of_suc-le-suc (lt_of_not-le h)

-- a next size is at most m just where the size is at most m·b + b/2
pub next_size-le : (b s m : ℕ) → 0 < b → (next_size b s ≤ m) ↔ (s ≤ m * b + b / 2)
next_size-le b s m p =
    let l : s % b < b = mod-lt s p in
    let e : s / b * b + s % b ≡ s = div-add-mod' s b in
    ltb_cases
    (λ t. (cond t (s / b + 1) (s / b) ≤ m) ↔ (s ≤ m * b + b / 2))
    (b / 2)
    (s % b)
    (λ h. (λ k. omega (arith, mul-le-mul_right b k), λ k. not_above (λ n. omega (arith, mul-le-mul_right b n))))
    (λ h. (λ k. omega (arith, mul-le-mul_right b k), λ k. not_above (λ n. omega (arith, mul-le-mul_right b n))))

-- the next size is below the size, as long as that is not 0
pub next_size-lt : (b s : ℕ) → 2 ≤ b → 0 < s → next_size b s < s
next_size-lt b zero p l = absurd (not-suc-le-zero l)
next_size-lt b (suc m) p l =
    let e : suc m ≤ m * b + b / 2 = omega (arith, mul-le-mul_left m p) in
    let h : next_size b (suc m) ≤ m = (next_size-le b (suc m) m (omega arith)).1 e in
    suc-le-suc h

-- the size after n digits is at most m just where the size is at most m·b^n + Σ_{k<n} (b/2)·b^k
pub size_after-le : (b n s m : ℕ) → 0 < b → (size_after b n s ≤ m) ↔ (s ≤ m * b ^ n + Σ n (λ k. b / 2 * b ^ k))
unfolding size_after Σ
size_after-le b zero s m p = let e : m * b ^ 0 ≡ m = ap (λ x. m * x) (pow-zero b) ∙ mul-one m in (λ h. omega arith, λ h. omega arith)
size_after-le b (suc n) s m p =
    let next : (next_size b (size_after b n s) ≤ m) ↔ (size_after b n s ≤ m * b + b / 2) = next_size-le b (size_after b n s) m p in
    let before : (size_after b n s ≤ m * b + b / 2) ↔ (s ≤ (m * b + b / 2) * b ^ n + Σ n (λ k. b / 2 * b ^ k)) = size_after-le b n s (m * b + b / 2) p in
    let e : m * b ^ suc n ≡ m * (b ^ n * b) = ap (λ x. m * x) (pow-suc b n) in
    (λ h. omega (arith, before.0 (next.0 h)), λ h. next.1 (before.1 (omega arith)))

-- the remainder of 0 is not below zero
rem_below_zero : (b : ℕ) → rem_below b 0 ≡ false
rem_below_zero b = ap (ltb (b / 2)) (zero-mod b) ∙ le-ltb (b / 2) 0 (omega arith)

-- the next size after 0 is 0
next_zero : (b : ℕ) → next_size b 0 ≡ 0
next_zero b = ap (λ t. cond t (0 / b + 1) (0 / b)) (rem_below_zero b) ∙ zero-div b

-- the remainder of 0 is 0
rem_zero : (b : ℕ) → rem_size b 0 ≡ 0
rem_zero b = ap (λ t. cond t (b - 0 % b) (0 % b)) (rem_below_zero b) ∙ zero-mod b

-- from a size of 0 on, the size stays 0
pub stays_zero : (b k j s : ℕ) → size_after b k s ≡ 0 → size_after b (k + j) s ≡ 0
unfolding size_after
stays_zero b k zero s e = rw add-zero e
stays_zero b k (suc j) s e = rw add-suc (ap (next_size b) (stays_zero b k j s e) ∙ next_zero b)

-- one more digit: the next size
pub size_after-next : (b k s : ℕ) → size_after b (k + 1) s ≡ next_size b (size_after b k s)
unfolding size_after
size_after-next b k s = rw (add-one k)

-- the size after one more digit is smaller, as long as it is not 0
pub size_after-lt : (b k s : ℕ) → 2 ≤ b → 0 < size_after b k s → size_after b (k + 1) s < size_after b k s
size_after-lt b k s p l = rw (size_after-next b k s) (next_size-lt b (size_after b k s) p l)

-- whether digit k of the value a is below zero
abbrev digit_below : ℕ → ℕ → ℕ → Bool
digit_below b a k = xor (is_larger_than_half a) (rem_below b (size_after b k (size a)))

-- from a size of 0 on, each digit is 0
pub digit_zero : (b a k : ℕ) → size_after b k (size a) ≡ 0 → digit b a k ≡ 0
unfolding digit
digit_zero b a k e = ap (signed (digit_below b a k)) (ap (rem_size b) e ∙ rem_zero b) ∙ signed_zero (digit_below b a k)

-- nothing is left over just where the size is at most Σ_{k<n} (b/2)·b^k
pub leftover_zero : (b n a : ℕ) → 0 < b → (leftover b n a ≡ 0) ↔ (size a ≤ Σ n (λ k. b / 2 * b ^ k))
unfolding leftover
leftover_zero b n a p =
    let le : (size_after b n (size a) ≤ 0) ↔ (size a ≤ 0 * b ^ n + Σ n (λ k. b / 2 * b ^ k)) = size_after-le b n (size a) 0 p in
    (λ e. omega (arith, le.0 (omega arith)), λ l. omega (arith, le.1 (omega arith)))

-- as many parts as reach the greatest size leave nothing of any value
pub enough-parts : (b n a : ℕ) → 0 < b → half_Q ≤ Σ n (λ k. b / 2 * b ^ k) → Canonical a → leftover b n a ≡ 0
enough-parts b n a p l h = (leftover_zero b n a p).1 (omega (arith, size-le a h))

-- 31 parts of base 2 leave nothing
pub enough_of_2 : (a : ℕ) → Canonical a → leftover 2 31 a ≡ 0
unfolding Σ
enough_of_2 a h = enough-parts 2 31 a (omega arith) (omega arith) h

-- 21 parts of base 3 leave nothing
pub enough_of_3 : (a : ℕ) → Canonical a → leftover 3 21 a ≡ 0
unfolding Σ
enough_of_3 a h = enough-parts 3 21 a (omega arith) (omega arith) h

-- the size of a digit is its remainder's
pub size-digit : (b a k : ℕ) → 0 < b → b ≤ top_Q → size (digit b a k) ≡ rem_size b (size_after b k (size a))
unfolding digit
size-digit b a k p l =
    let s = size_after b k (size a) in
    size-signed (digit_below b a k) (rem_size b s) (omega (arith, rem_size-le b s p))

-- a digit's size is at most b/2 rounded down
pub digit-size-le : (b a k : ℕ) → 0 < b → b ≤ top_Q → size (digit b a k) ≤ b / 2
digit-size-le b a k p l = rw (size-digit b a k p l) (rem_size-le b (size_after b k (size a)) p)

-- a digit is canonical
pub digit-canonical : (b a k : ℕ) → 0 < b → b ≤ top_Q → Canonical (digit b a k)
unfolding digit
digit-canonical b a k p l =
    let s = size_after b k (size a) in
    signed-canonical (digit_below b a k) (rem_size b s) (omega (arith, rem_size-le b s p))

-- a remainder's size is at most the size, in any base
pub rem_size_self : (b s : ℕ) → rem_size b s ≤ s
rem_size_self b s = let l : s % b ≤ s = mod-le s b in ltb_cases (λ t. cond t (b - s % b) (s % b) ≤ s) (b / 2) (s % b) (λ h. omega arith) (λ h. l)

-- the next size is at most the size, in any base
pub next_size_self : (b s : ℕ) → next_size b s ≤ s
next_size_self b s =
    let e : s / b * b + s % b ≡ s = div-add-mod' s b in
    let l : s / b ≤ s = div-le_self s b in
    ltb_cases (λ t. cond t (s / b + 1) (s / b) ≤ s) (b / 2) (s % b) (λ h. below b s e h) (λ h. l)
  where
    below : (b s : ℕ) → s / b * b + s % b ≡ s → b / 2 < s % b → s / b + 1 ≤ s
    below zero s e h = omega (arith, div-zero s)
    below (suc b) s e h = omega arith

-- the size after some digits is at most the size, in any base
pub size_after_self : (b k s : ℕ) → size_after b k s ≤ s
unfolding size_after
size_after_self b zero s = le_refl s
size_after_self b (suc k) s = omega (arith, next_size_self b (size_after b k s), size_after_self b k s)

-- a digit of a canonical value is canonical, in any base
pub digit_of-canonical : (b a k : ℕ) → Canonical a → Canonical (digit b a k)
unfolding digit
digit_of-canonical b a k h =
    let s = size_after b k (size a) in
    signed-canonical (digit_below b a k) (rem_size b s) (omega (arith, rem_size_self b s, size_after_self b k (size a), size-le a h))

-- the rest of a canonical value is canonical, in any base
pub rest_of-canonical : (b a : ℕ) → Canonical a → Canonical (rest b a)
unfolding rest
rest_of-canonical b a h = signed-canonical (is_larger_than_half a) (size_after b 1 (size a)) (omega (arith, size_after_self b 1 (size a), size-le a h))

-- there are as many digits as parts
pub length_digits : (b n a : ℕ) → length (digits b n a) ≡ n
unfolding digits
length_digits b n a = rw length-table

-- digit k of the list of digits
pub get_or-digits : (b n a k : ℕ) → k < n → get_or (digits b n a) k 0 ≡ digit b a k
unfolding digits
get_or-digits b n a k h = get_or-table n (digit b a) k 0 h
