use Rattle.std.proofs.Common.{◌≡◌, ℕ, ◌+◌, ◌*◌, ◌/◌, ◌%◌, ◌<◌, ◌≤◌, List, length, get_or, set, sym, refl, ap, ◌∙◌, ap₂, zero-add, arith, length-set}
use Rattle.math.specs.lists.Table.{table}
use Rattle.math.specs.lists.Part.{part, splice}
use Rattle.math.proofs.lists.Table.{length-table, get_or-table}
use Rattle.math.proofs.lists.Splice.{splice-nil, get_or-splice-after, get_d_part}
use Rattle.math.proofs.lists.Fill.{splice-table-next, get_or-splice-table}
use Rattle.spec_leaves.specs.Zq.{Q, lack_Q}
use Rattle.spec_leaves.specs.Rq.{rscale}
use Rattle.spec_leaves.proofs.Fits.{product_max}
use Rattle.ring_rq_product.specs.Sums.{Added}
use Rattle.ring_rq_product.specs.Product.{growth}
use Rattle.ring_rq_product.proofs.Halves.{growth-small}
use Rattle.ring_rq_product.proofs.sums.add_scaled.Goals.{After-slice_known-in-loop-k-1, After-wide}
use Rattle.ring_rq_product.proofs.sums.add_scaled.Invariants.{folded, halves}
use Rattle.ring_rq_product.proofs.sums.add_scaled.Goals as goal

-- sums with the halves of an element's products added have the scaled element added
added : (sums words result : List ℕ) (at c : ℕ) → length sums ≡ 64 → result ≡ splice sums 0 (table 64 (folded sums words at c))
    → ((k : ℕ) → k < 64 → get_or words (at + k) 0 * c ≤ 18446744065119617025)
    → Added growth sums (rscale (part words at 64) c) result
unfolding halves rscale
added sums words result at c n e b =
    let read : (k : ℕ) → k < 64 → get_or result k 0 ≡ folded sums words at c k = λ k h.
    ap (λ r. get_or r k 0) e ∙ ap (λ i. get_or (splice sums 0 (table 64 (folded sums words at c))) i 0) (sym (zero-add k))
    ∙ get_or-splice-table sums 0 64 (folded sums words at c) k 0 h (omega arith) in record {
      value = λ k h.
          ap (λ v. v % Q) (read k h)
          ∙ folds (get_or sums k 0) (get_or words (at + k) 0 * c)
          ∙ ap (λ v. (get_or sums k 0 + v * c % Q) % Q) (sym (get_d_part 0 words at 64 k h))
          ∙ ap (λ v. (get_or sums k 0 + v) % Q) (sym (get_or-table 64 (λ k. get_or (part words at 64) k 0 * c % Q) k 0 h));
      bound = λ k h. omega (arith, read k h, b k h);
    }
  where
    folds : (s p : ℕ) → (s + (p % 4294967296 + p / 4294967296 * lack_Q)) % Q ≡ (s + p % Q) % Q
    folds s p = omega arith

-- the product is below 2^64
product_at : (c : After-wide) → c.wide.result * c.wide-c.result ≤ 18446744065119617025
product_at c = product_max c.wide.ensures.1 c.wide-c.ensures.1

-- sum k is the one lent
sum_at : (c : After-slice_known-in-loop-k-1) → get_or c.loop-k.sums c.loop-k.k 0
    ≡ get_or c.args.sums.now c.loop-k.k 0
sum_at c =
    let l = c.loop-k in
    let s = c.args in
    let f : ℕ → ℕ = folded s.sums.now s.words.now s.at s.factor in
    let n = length-table l.k f in
    ap (λ w. get_or w l.k 0) l.invariant.1 ∙ get_or-splice-after s.sums.now 0 (table l.k f) l.k 0 (omega arith)

pub loop-k-init : goal.loop-k-init
unfolding table
loop-k-init c = (omega arith, sym (splice-nil _ _), refl)

pub overflow_add-sums-in-loop-k : goal.overflow_add-sums-in-loop-k
overflow_add-sums-in-loop-k c =
    omega (
      arith,
      growth-small,
      product_at (goal.at.overflow_add-sums-in-loop-k c).After-wide,
      sum_at (goal.at.overflow_add-sums-in-loop-k c).After-slice_known-in-loop-k-1,
      c.requires.2 c.loop-k.k (omega arith),
    )

pub loop-k-preserved : goal.loop-k-preserved
unfolding halves
loop-k-preserved c =
    let l = c.loop-k in
    let s = c.args in
    let f : ℕ → ℕ = folded s.sums.now s.words.now s.at s.factor in
    let p = c.wide.result * c.wide-c.result in
    let v = get_or l.sums l.k 0 + (p % 4294967296 + p / 4294967296 * lack_Q) in
    let product = ap₂ ◌*◌ c.wide.ensures.0 c.wide-c.ensures.0 in (
      omega arith,
      ap₂ (λ w i. set w i v) l.invariant.1 (sym (zero-add l.k))
          ∙ splice-table-next s.sums.now 0 l.k f v (ap₂ (λ x p. x + (p % 4294967296 + p / 4294967296 * lack_Q)) (sum_at (goal.at.loop-k-preserved c).After-slice_known-in-loop-k-1) product),
      simp length-set l.invariant.2,
    )

pub returns : goal.returns
returns c =
    let l = c.loop-k in
    let s = c.args in
    let n : l.k ≡ 64 = omega arith in (
      omega arith,
      added s.sums.now s.words.now _ s.at s.factor (omega arith)
          (l.invariant.1 ∙ ap (λ k. splice s.sums.now 0 (table k (folded s.sums.now s.words.now s.at s.factor))) n) (λ k h.
          product_max {a = get_or s.words.now (s.at + k) 0} {b = s.factor} (omega (arith, c.shared_slice_known-1.given (s.at + k))) (omega arith)),
    )

pub overflow_mul-term : goal.overflow_mul-term
overflow_mul-term c = omega (arith, product_at (goal.at.overflow_mul-term c).After-wide)

pub overflow_mul-sums : goal.overflow_mul-sums
overflow_mul-sums c = omega (arith, product_at (goal.at.overflow_mul-sums c).After-wide)

pub overflow_add-sums : goal.overflow_add-sums
overflow_add-sums c = omega (arith, product_at (goal.at.overflow_add-sums c).After-wide)
