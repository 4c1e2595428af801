use mathlib.Core.Path.{◌≡◌, refl, sym, ap, ap₂, ◌∙◌}
use Prim.Native.Nat.{ℕ, ◌+◌, ◌*◌, ◌%◌, ◌≤◌}
use native.Mathlib.Omega.{arith}
use lib.ListN.{get_or}
use Rattle.math.specs.lists.Sum.{Σ}
use Rattle.math.proofs.lists.Sum.{Σ-suc, Σ-mod_ext}
use Rattle.spec_leaves.specs.Zq.{Q}
use Rattle.spec_leaves.specs.Rq.{coeff}
use Rattle.spec_leaves.proofs.Fits.{product_max}
use Rattle.load_constraints.proofs.sums.dot.Goals as goal

-- reduced once more
reduced_again : (x : ℕ) → x % Q % Q ≡ x % Q
reduced_again x = omega arith

-- one more reduced number
one_more : (k sum x : ℕ) → sum ≤ k * Q → sum + x % Q ≤ (k + 1) * Q
one_more k sum x h = omega arith

pub loop-k-init : goal.loop-k-init
unfolding Σ
loop-k-init c = (omega arith, refl, omega arith)

pub overflow_mul-sum : goal.overflow_mul-sum
overflow_mul-sum c = omega (arith, product_max {a = c.from.result} {b = c.from-in-loop-k.result} (omega (arith, c.from.ensures)) (omega (arith, c.from-in-loop-k.ensures)))

pub overflow_add-sum : goal.overflow_add-sum
overflow_add-sum c = omega (arith, c.loop-k.invariant)

pub loop-k-preserved : goal.loop-k-preserved
loop-k-preserved c =
    let s = c.args in
    let l = c.loop-k in (
      omega arith,
      ap₂ (λ t p. t + p % Q) l.invariant.1 (ap₂ ◌*◌ c.from.ensures c.from-in-loop-k.ensures) ∙ sym (Σ-suc l.k (λ i. coeff s.coeffs i * get_or s.words.now (s.at + i) 0 % Q)),
      one_more l.k l.sum (c.from.result * c.from-in-loop-k.result) l.invariant.2,
    )

pub returns : goal.returns
returns c =
    let s = c.args in
    let l = c.loop-k in
    let done : l.k ≡ 64 = omega arith in
    ap (λ n. n % Q) l.invariant.1
    ∙ ap (λ k. Σ k (λ i. coeff s.coeffs i * get_or s.words.now (s.at + i) 0 % Q) % Q) done
    ∙ Σ-mod_ext 64 Q (λ i. coeff s.coeffs i * get_or s.words.now (s.at + i) 0 % Q) (λ i. coeff s.coeffs i * get_or s.words.now (s.at + i) 0)
    (λ i h. reduced_again (coeff s.coeffs i * get_or s.words.now (s.at + i) 0))
