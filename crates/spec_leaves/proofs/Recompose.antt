-- Laws of digits put together again: what is left over never vanishes modulo Q, so that a value comes back exactly where nothing is left; and how many parts a base needs.
use mathlib.Core.Path.{◌≡◌, refl, sym, ap, ap₂, ◌∙◌}
use mathlib.Core.Bool.{Bool, true, false}
use mathlib.Core.Logic.{◌↔◌}
use Prim.Native.Nat.{ℕ, zero, suc, ◌+◌, ◌*◌, ◌/◌, ◌%◌, ◌^◌, ◌≤◌, ◌<◌}
use native.Mathlib.Nat.{pow-suc, pow-zero, one-le-pow, pow-le-pow_left, mul-le-mul, mul-le-mul_left, lt_of_not-le}
use native.Mathlib.Decide.{dec_lt}
use native.Mathlib.Numerals.{add-one}
use native.Mathlib.Omega.{arith}
use lib.ListN.{get_or}
use Rattle.math.specs.lists.Sum.{Σ}
use Rattle.math.proofs.lists.Sum.{Σ_ext, Σ-le, Σ_mono}
use Rattle.spec_leaves.specs.Zq.{Q, lack_Q, top_Q, half_Q, Canonical, is_larger_than_half, size}
use Rattle.spec_leaves.specs.Digits.{signed, digit, digits, size_after, leftover}
use Rattle.spec_leaves.specs.Answer.{fine, ◌then◌}
use Rattle.spec_leaves.specs.Leaf.{limited_by}
use Rattle.spec_leaves.specs.Recompose.{recompose, Enough, PartsNeeded, recompose_operands}
use Rattle.spec_leaves.proofs.Leaf.{below-fine, within-fine}
use Rattle.spec_leaves.proofs.Centre.{size-le}
use Rattle.spec_leaves.proofs.Suited.{suited, odd_modulus, half_near}
use Rattle.spec_leaves.proofs.Digits.{digits_sum, digits-whole, zneg-times, size_after-le, leftover_zero, enough-parts, digit-canonical, length_digits, get_or-digits}

-- the greatest size of which n parts in base b leave nothing: Σ_{k<n} (b/2)·b^k
unfoldable pub reach : ℕ → ℕ → ℕ
reach b n = Σ n (λ k. b / 2 * b ^ k)

-- no parts leave nothing of 0 alone
pub reach_none : (b : ℕ) → reach b 0 ≡ 0
unfolding reach Σ
reach_none b = refl

-- one part more
pub reach_next : (b n : ℕ) → reach b (n + 1) ≡ reach b n * b + b / 2
unfolding reach Σ
reach_next b n = ap (λ m. Σ m (λ k. b / 2 * b ^ k)) (add-one n) ∙ next n
  where
    next : (n : ℕ) → Σ (suc n) (λ k. b / 2 * b ^ k) ≡ Σ n (λ k. b / 2 * b ^ k) * b + b / 2
    next zero = omega (arith, ap (λ x. b / 2 * x) (pow-zero b))
    next (suc n) = omega (arith, next n, ap (λ x. b / 2 * x) (pow-suc b n))

-- b^n is at most twice the reach and 1
power_le : (b n : ℕ) → b ^ n ≤ 2 * reach b n + 1
unfolding reach Σ
power_le b zero = omega (arith, pow-zero b)
power_le b (suc n) =
    let half : b ≤ 2 * (b / 2) + 1 = omega arith in
    omega (arith, power_le b n, pow-suc b n, mul-le-mul_left (b ^ n) half)

-- what is left, times b^n, is at most the size and the reach, which is below the size
left_le : (b n s m : ℕ) → 0 < b → size_after b n s ≡ suc m → (suc m * b ^ n ≤ s + reach b n) × (reach b n < s)
unfolding reach
left_le b n s m p e =
    let above : m * b ^ n + Σ n (λ k. b / 2 * b ^ k) < s = lt_of_not-le (λ l. let h : size_after b n s ≤ m = (size_after-le b n s m p).1 l in omega arith) in
    (omega (arith, power_le b n), omega arith)

-- "What is left then", where it is not 0, times b^n lies above 0 and below Q
pub left-within : (b n a : ℕ) → 0 < b → Canonical a → 0 < leftover b n a → (0 < leftover b n a * b ^ n) × (leftover b n a * b ^ n < Q)
unfolding leftover
left-within b n a p h l = by (size_after b n (size a)) refl l
  where
    by : (left : ℕ) → size_after b n (size a) ≡ left → 0 < left → (0 < left * b ^ n) × (left * b ^ n < Q)
    by zero e k = absurd (omega arith)
    by (suc m) e k =
        let le = left_le b n (size a) m p e in
        let positive : 1 ≤ b ^ n = one-le-pow n b p in
        (omega arith, omega (arith, size-le a h))

-- so it is not 0 modulo Q, with either sign
never_vanishes : (t : Bool) (left power : ℕ) → 0 < left * power → left * power < Q → (signed t left * power) % Q ≡ 0 → ⊥
never_vanishes true left power l h e = omega (arith, zneg-times left power)
never_vanishes false left power l h e = omega arith

-- the digits of a value put together are their sum with their weights
pub recompose-digits : (b n a : ℕ) → recompose b (digits b n a) ≡ Σ n (λ k. digit b a k * b ^ k) % Q
unfolding recompose
recompose-digits b n a =
    ap (λ m. Σ m (λ i. get_or (digits b n a) i 0 * b ^ i) % Q) (length_digits b n a)
    ∙ ap (λ s. s % Q) (Σ_ext n (λ i. get_or (digits b n a) i 0 * b ^ i) (λ k. digit b a k * b ^ k) (λ k l. ap (λ d. d * b ^ k) (get_or-digits b n a k l)))

-- "For the digits of a value it returns that value exactly when the digit rule had nothing left."
pub recompose_iff : (b n a : ℕ) → 0 < b → Canonical a → (recompose b (digits b n a) ≡ a) ↔ (leftover b n a ≡ 0)
recompose_iff b n a p h = (λ e. none (leftover b n a) refl e, λ e. recompose-digits b n a ∙ digits-whole b n a p h e)
  where
    none : (left : ℕ) → leftover b n a ≡ left → recompose b (digits b n a) ≡ a → leftover b n a ≡ 0
    none zero l e = l
    none (suc m) l e =
        let t = is_larger_than_half a in
        let w = left-within b n a p h (omega arith) in
        let sum = digits_sum b n a p h in
        let alone = sym (recompose-digits b n a) ∙ e in
        absurd (never_vanishes t (leftover b n a) (b ^ n) w.0 w.1 (omega arith))

-- parts are enough just where they reach the greatest size
pub enough_iff : (b n : ℕ) → 0 < b → Enough b n ↔ (half_Q ≤ reach b n)
unfolding reach
enough_iff b n p = (λ f. (leftover_zero b n half_Q p).0 (f half_Q (omega arith)), λ l a h. enough-parts b n a p l h)

-- more parts than enough are enough
pub enough_more : (b m n : ℕ) → 0 < b → m ≤ n → Enough b m → Enough b n
unfolding reach
enough_more b m n p l e = (enough_iff b n p).1 (omega (arith, (enough_iff b m p).0 e, Σ_mono m n (λ k. b / 2 * b ^ k) l))

-- the parts that are needed, by their reach
pub needed-by_reach : (b n : ℕ) → 0 < b → half_Q ≤ reach b n → ((fewer : ℕ) → fewer < n → reach b fewer < half_Q) → PartsNeeded b n
needed-by_reach b n p l f = record {
  enough = (enough_iff b n p).1 l;
  least = λ fewer h e. let k : reach b fewer < half_Q = f fewer h in let r : half_Q ≤ reach b fewer = (enough_iff b fewer p).0 e in omega arith;
}

-- a base needs one number of parts alone
pub needed_unique : (b m n : ℕ) → PartsNeeded b m → PartsNeeded b n → m ≡ n
needed_unique b m n x y = by (dec_lt m n) (dec_lt n m)
  where
    by : Dec (m < n) → Dec (n < m) → m ≡ n
    by (yes l) k = absurd (y.least m l x.enough)
    by (no l) (yes k) = absurd (x.least n k y.enough)
    by (no l) (no k) = omega arith

-- with the parts that are needed, or more of them, every value comes back
pub needed-recompose : (b n a : ℕ) → 0 < b → PartsNeeded b n → Canonical a → recompose b (digits b n a) ≡ a
needed-recompose b n a p x h = (recompose_iff b n a p h).1 (x.enough a h)

-- "31 for base 2"
pub needed_of_2 : PartsNeeded 2 31
unfolding reach Σ
needed_of_2 = needed-by_reach 2 31 (omega arith) (omega arith) (λ fewer l. omega (arith, half_near lack_Q suited, Σ_mono fewer 30 (λ k. 2 / 2 * 2 ^ k) (omega arith)))

-- "21 for base 3"
pub needed_of_3 : PartsNeeded 3 21
unfolding reach Σ
needed_of_3 = needed-by_reach 3 21 (omega arith) (omega arith) (λ fewer l. omega (arith, half_near lack_Q suited, Σ_mono fewer 20 (λ k. 3 / 2 * 3 ^ k) (omega arith)))

-- one part is enough in the greatest base alone, since Q is odd
pub needed_is_1 : (b : ℕ) → 2 ≤ b → b ≤ top_Q → PartsNeeded b 1 ↔ (b ≡ top_Q)
needed_is_1 b p l = (
  λ x. let r : half_Q ≤ reach b 1 = (enough_iff b 1 (omega arith)).0 x.enough in omega (arith, one),
  λ e. needed-by_reach b 1 (omega arith) (omega (arith, one, odd_modulus lack_Q suited)) (λ fewer h. let z : fewer ≡ 0 = omega arith in omega (arith, ap (reach b) z, reach_none b)),
)
  where
    one : reach b 1 ≡ b / 2
    one = reach_next b 0 ∙ ap (λ x. x * b + b / 2) (reach_none b) ∙ omega arith

-- no base needs more than 31 parts
pub needed-at_most_31 : (b n : ℕ) → 2 ≤ b → PartsNeeded b n → n ≤ 31
unfolding reach
needed-at_most_31 b n p x = by (dec_lt 31 n)
  where
    half : 1 ≤ b / 2
    half = omega arith

    more : reach 2 31 ≤ reach b 31
    more = Σ-le 31 (λ k. 2 / 2 * 2 ^ k) (λ k. b / 2 * b ^ k) (λ k l. mul-le-mul half (pow-le-pow_left p k))

    by : Dec (31 < n) → n ≤ 31
    by (yes l) = absurd (x.least 31 l ((enough_iff b 31 (omega arith)).1 (omega (arith, more, (enough_iff 2 31 (omega arith)).0 needed_of_2.enough))))
    by (no l) = omega arith

-- the digits of a canonical value, in a base and a number of parts within document 01's limits, are not refused
pub digits-fit : (b n a : ℕ) → 2 ≤ b → b ≤ top_Q → 1 ≤ n → n ≤ 32 → Canonical a → recompose_operands b (digits b n a) ≡ fine
digits-fit b n a p l q m h =
    ap₂ ◌then◌ (within-fine 31 2 top_Q 0 b p l)
    (ap₂ ◌then◌ (ap (limited_by 31 1 32 1) (length_digits b n a) ∙ within-fine 31 1 32 1 n q m)
    (below-fine Q 6 2 (digits b n a) (λ i k. let j : i < n = rw (length_digits b n a) at k in rw (get_or-digits b n a i j) (digit-canonical b a i (omega arith) l))))
