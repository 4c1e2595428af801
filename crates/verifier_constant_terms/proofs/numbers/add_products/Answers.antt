use mathlib.Core.Path.{◌≡◌, refl, sym, ◌∙◌, ap, ap₂}
use Prim.Native.Nat.{ℕ, ◌+◌, ◌*◌, ◌/◌, ◌%◌, ◌≤◌}
use native.Mathlib.Nat.{add-zero, add_assoc}
use native.Mathlib.Omega.{arith}
use lib.ListN.{get_or}
use Rattle.math.specs.lists.Sum.{Σ}
use Rattle.math.proofs.lists.Sum.{Σ-suc}
use Rattle.spec_leaves.specs.Zq.{Q, lack_Q}
use Rattle.spec_leaves.proofs.Fits.{product_max}
use Rattle.spec_leaves.proofs.Suited.{suited, halves_fit}
use Rattle.spec_leaves.proofs.Modulo.{add-mod}
use Rattle.verifier_constant_terms.proofs.numbers.add_products.Goals.{After-wide-in-loop-k}
use Rattle.verifier_constant_terms.proofs.numbers.add_products.Goals as goal

-- the halves of a product come to 2^39 at most, since Q lacks little of 2^32
halves_small : (p : ℕ) → p ≤ 18446744065119617025 → p / 4294967296 * lack_Q + p % 4294967296 ≤ 549755813888
halves_small p h = halves_fit lack_Q p suited (omega arith)

-- 2^32 is what Q lacks of it modulo Q
folds : (t p : ℕ) → (t + (p / 4294967296 * lack_Q + p % 4294967296)) % Q ≡ (t + p) % Q
folds t p = omega arith

-- one more product
next : (sum t p k : ℕ) (f : ℕ → ℕ) → t % Q ≡ (sum + Σ k f) % Q → p ≡ f k → (t + (p / 4294967296 * lack_Q + p % 4294967296)) % Q ≡ (sum + Σ (k + 1) f) % Q
next sum t p k f e g =
    folds t p
    ∙ add-mod Q t p (sum + Σ k f) p e refl
    ∙ ap (λ x. x % Q) (ap (λ y. sum + Σ k f + y) g ∙ add_assoc sum (Σ k f) (f k) ∙ ap (λ y. sum + y) (sym (Σ-suc k f)))

-- the product is below 2^64
product_at : (c : After-wide-in-loop-k) → c.wide.result * c.wide-in-loop-k.result ≤ 18446744065119617025
product_at c = product_max c.wide.ensures.1 c.wide-in-loop-k.ensures.1

-- its halves are below 2^39 together
small_at : (c : After-wide-in-loop-k)
    → c.wide.result * c.wide-in-loop-k.result / 4294967296 * lack_Q + c.wide.result * c.wide-in-loop-k.result % 4294967296 ≤ 549755813888
small_at c = halves_small (c.wide.result * c.wide-in-loop-k.result) (product_at c)

pub loop-k-init : goal.loop-k-init
unfolding Σ
loop-k-init c = (omega arith, ap (λ x. x % Q) (sym (add-zero _)), omega arith)

pub loop-k-preserved : goal.loop-k-preserved
loop-k-preserved c =
    let s = c.args in
    let l = c.loop-k in (
      omega arith,
      next s.sum l.total (c.wide.result * c.wide-in-loop-k.result) l.k (λ m. get_or s.x.now (s.x_at + m) 0 * get_or s.y.now (s.y_at + m) 0) l.invariant.1
          (ap₂ ◌*◌ c.wide.ensures.0 c.wide-in-loop-k.ensures.0),
      omega (arith, small_at (goal.at.loop-k-preserved c).After-wide-in-loop-k),
    )

pub returns : goal.returns
returns c =
    let s = c.args in
    let l = c.loop-k in
    let n : l.k ≡ s.count = omega arith in
    (l.invariant.1 ∙ ap (λ k. (s.sum + Σ k (λ m. get_or s.x.now (s.x_at + m) 0 * get_or s.y.now (s.y_at + m) 0)) % Q) n, omega arith)

pub overflow_mul-term : goal.overflow_mul-term
overflow_mul-term c = omega (arith, product_at (goal.at.overflow_mul-term c).After-wide-in-loop-k)

pub overflow_mul-total : goal.overflow_mul-total
overflow_mul-total c = omega (arith, product_at (goal.at.overflow_mul-total c).After-wide-in-loop-k)

pub overflow_add-total : goal.overflow_add-total
overflow_add-total c = omega (arith, small_at (goal.at.overflow_add-total c).After-wide-in-loop-k)

pub overflow_add-total-in-loop-k : goal.overflow_add-total-in-loop-k
overflow_add-total-in-loop-k c = omega (arith, small_at (goal.at.overflow_add-total-in-loop-k c).After-wide-in-loop-k)
