-- A sum of products below 2^64, kept modulo 2^64 beside the sum of the products' upper halves.
use Rattle.std.proofs.Common.{◌≡◌, ℕ, zero, suc, ◌+◌, ◌-◌, ◌*◌, ◌/◌, ◌%◌, ◌^◌, ◌≤◌, List, length, get_or, sym, refl, ap, ◌∙◌, arith}
use Rattle.math.specs.lists.Sum.{Σ}
use Rattle.math.proofs.lists.Sum.{Σ-bound, Σ-suc}
use Rattle.spec_leaves.specs.Zq.{Q, lack_Q}
use Rattle.spec_leaves.proofs.Fits.{product_max}
use Rattle.spec_leaves.proofs.Suited.{suited, sum_fits}
use Rattle.ring_rq_product.specs.Product.{AllWords, folded, growth, halves_sum, WithProduct}

-- the sum is 2^32 times that of the upper halves and that of the lower halves
pub halves : (n : ℕ) (p : ℕ → ℕ) → Σ n p ≡ 4294967296 * Σ n (λ i. p i / 4294967296) + Σ n (λ i. p i % 4294967296)
unfolding Σ
halves zero p = refl
halves (suc n) p = omega (arith, halves n p)

-- the lower halves of 64 products sum to less than 2^38
pub lower_small : (p : ℕ → ℕ) → Σ 64 (λ i. p i % 4294967296) ≤ 274877906944
lower_small p = Σ-bound 64 4294967296 (λ i. p i % 4294967296) (λ i l. omega arith)

-- all halves of 64 products come to 2^45 at most, since Q lacks little of 2^32
pub growth-small : growth ≤ 2 ^ 45
growth-small = sum_fits lack_Q suited

-- what the upper halves' sum leaves of the sum modulo 2^64 is the lower halves' sum
halves_sum_is : (sum upper lower total : ℕ) → total ≡ 4294967296 * upper + lower → lower ≤ 274877906944 → upper ≤ 274877906944 → sum ≡ total % 2 ^ 64
    → halves_sum sum upper ≡ lower + upper * lack_Q
halves_sum_is sum upper lower total t l u m =
    rest sum (upper % 4294967296 * 4294967296) lower (upper * lack_Q) (omega arith) (omega arith) (omega (arith, growth-small))
  where
    rest : (sum taken lower upper : ℕ) → sum ≡ (taken + lower) % 2 ^ 64 → taken ≤ 18446744069414584320 → lower + upper ≤ 2 ^ 45 → (sum + (2 ^ 64 - taken) + upper) % 2 ^ 64 ≡ lower + upper
    rest sum taken lower upper e l h = omega arith

-- 2^32 is what Q lacks of it modulo Q
pub joined : (upper lower total : ℕ) → total ≡ 4294967296 * upper + lower → (lower + upper * lack_Q) % Q ≡ total % Q
joined upper lower total t = omega arith

-- product i from a place on
abbrev term : List ℕ → List ℕ → ℕ → ℕ → ℕ
term x y at i = get_or x i 0 * get_or y (at + i) 0

-- the sum of the first i products modulo 2^64, and that of their upper halves
unfoldable pub Begun : (x y : List ℕ) (at i sum upper : ℕ) → Type 0
Begun x y at i sum upper = (sum ≡ Σ i (term x y at) % 2 ^ 64) × (upper ≡ Σ i (λ j. term x y at j / 4294967296)) × (upper ≤ 4294967296 * i)

pub begun_none : (x y : List ℕ) (at : ℕ) → Begun x y at 0 0 0
unfolding Begun Σ
begun_none x y at = (refl, refl, omega arith)

pub begun_small : (x y : List ℕ) (at i sum upper : ℕ) → Begun x y at i sum upper → upper ≤ 4294967296 * i
unfolding Begun
begun_small x y at i sum upper h = h.2

-- one more product in the sum modulo 2^64
sum_again : (sum total p r : ℕ) → sum ≡ total % 2 ^ 64 → r ≡ (sum + p) % 2 ^ 64 → r ≡ (total + p) % 2 ^ 64
sum_again sum total p r s e = omega arith

-- one more product
pub begun_next : (x y : List ℕ) (at i sum upper sum' upper' : ℕ) → Begun x y at i sum upper → WithProduct sum upper (get_or x i 0) (get_or y (at + i) 0) sum' upper' → Begun x y at (i + 1) sum' upper'
unfolding Begun WithProduct
begun_next x y at i sum upper sum' upper' h w = (
  sum_again _ _ _ _ h.0 w.0 ∙ ap (λ t. t % 2 ^ 64) (sym (Σ-suc i (term x y at))),
  w.1 ∙ ap (λ t. t + term x y at i / 4294967296) h.1 ∙ sym (Σ-suc i (λ j. term x y at j / 4294967296)),
  omega arith,
)

-- after 64 products both give the sum of all halves
pub begun_folded : (x y : List ℕ) (at sum upper : ℕ) → Begun x y at 64 sum upper → halves_sum sum upper ≡ folded x y at
unfolding Begun folded
begun_folded x y at sum upper h =
    let p : ℕ → ℕ = term x y at in
    halves_sum_is sum upper (Σ 64 (λ i. p i % 4294967296)) (Σ 64 p) (halves 64 p ∙ ap (λ u. 4294967296 * u + Σ 64 (λ i. p i % 4294967296)) (sym h.1)) (lower_small p) (omega arith) h.0
    ∙ ap (λ u. Σ 64 (λ i. p i % 4294967296) + u * lack_Q) h.1

-- the halves' sum is the products' modulo Q
pub folded-mod : (x y : List ℕ) (at : ℕ) → folded x y at % Q ≡ Σ 64 (λ i. get_or x i 0 * get_or y (at + i) 0) % Q
unfolding folded
folded-mod x y at = let p : ℕ → ℕ = λ i. get_or x i 0 * get_or y (at + i) 0 in joined (Σ 64 (λ i. p i / 4294967296)) (Σ 64 (λ i. p i % 4294967296)) (Σ 64 p) (halves 64 p)

-- the halves of 64 products of words sum to at most that
pub folded-small : (x y : List ℕ) (at : ℕ) → 64 ≤ length x → at + 64 ≤ length y → AllWords x → AllWords y → folded x y at ≤ growth
unfolding folded
folded-small x y at hx hy wx wy =
    let p : ℕ → ℕ = λ i. get_or x i 0 * get_or y (at + i) 0 in
    let upper : Σ 64 (λ i. p i / 4294967296) ≤ 64 * 4294967296 =
    Σ-bound 64 4294967296 (λ i. p i / 4294967296) (λ i l. omega (arith, product_max {a = get_or x i 0} {b = get_or y (at + i) 0} (wx i (omega arith)) (wy (at + i) (omega arith)))) in
    omega (arith, lower_small p)
