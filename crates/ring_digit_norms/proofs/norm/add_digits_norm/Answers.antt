use mathlib.Core.Path.{◌≡◌, sym, ◌∙◌, ap, ap₂}
use mathlib.Core.Bool.{Bool, cond}
use mathlib.Core.List.{List}
use Prim.Native.Nat.{ℕ, ◌+◌, ◌≤◌}
use native.Mathlib.Nat.{add-zero, add_assoc}
use native.Mathlib.Omega.{arith}
use borrow.Author.Rules.{rules}
use lib.ListN.{length}
use lib.Seq.{take_all}
use Rattle.math.specs.lists.Sum.{Σ}
use Rattle.math.proofs.lists.Sum.{Σ-suc}
use Rattle.spec_leaves.specs.Norm.{norm}
use Rattle.spec_leaves.specs.Rq.{is_zero, digit_row, left_row}
use Rattle.ring_rq_digits.proofs.Sizes.{sizes_after, sizes_first, sizes_next, sizes_left, row_is, rows_zero, left_zero}
use Rattle.ring_digit_norms.proofs.Squares.{Σ_used, norm_zero}
use Rattle.ring_digit_norms.proofs.norm.add_digits_norm.Goals as goal

-- whether nothing goes on after the last row is whether nothing is left
nothing_left : (b parts k : ℕ) (a sizes : List ℕ) {t : Bool} → k ≡ parts → sizes ≡ sizes_after b a k → t ≡ is_zero sizes → is_zero (left_row b parts a) ≡ t
nothing_left b parts k a sizes n e z = sym (z ∙ ap is_zero (sizes_left b parts k a sizes n e))

pub loop-k-init : goal.loop-k-init
unfolding Σ
loop-k-init c = (omega arith, sizes_first _ _ _ c.sizes_of-sizes.ensures, sym (add-zero _), omega arith)

pub add_norm-total-requires : goal.add_norm-total-requires
add_norm-total-requires c =
    let n : length c.take_row-taken.result.row ≡ 64 = search rules in
    (omega arith, omega arith)

pub loop-k-preserved : goal.loop-k-preserved
loop-k-preserved c =
    let s = c.args in
    let l = c.loop-k in
    let taken = c.take_row-taken in
    let n : length taken.result.row ≡ 64 = search rules in
    let row = row_is s.base s.a l.sizes taken.result.row l.k l.invariant.1 taken.ensures.0 in
    let f : ℕ → ℕ = λ q. norm (digit_row s.base s.a q) in (
      omega arith,
      sizes_next s.base s.a l.sizes taken.result.sizes l.k l.invariant.1 taken.ensures.1,
      c.add_norm-total.ensures.0
          ∙ ap₂ ◌+◌ l.invariant.2 (ap norm (take_all 64 taken.result.row (omega arith) ∙ row))
          ∙ add_assoc s.sum.norm (Σ l.k f) (f l.k)
          ∙ ap (λ x. s.sum.norm + x) (sym (Σ-suc l.k f)),
      omega arith,
    )

pub returns-then-is_zero : goal.returns-then-is_zero
returns-then-is_zero c =
    let s = c.args in
    let l = c.loop-k in
    let zero = sym c.is_zero.ensures ∙ c.if-is_zero.true in
    let row : (q : ℕ) → l.k ≤ q → norm (digit_row s.base s.a q) ≡ 0 = λ q h. ap norm (rows_zero s.base s.a l.sizes l.k l.invariant.1 zero q h) ∙ norm_zero in
    let left = left_zero s.base s.a l.sizes l.k l.invariant.1 zero s.parts l.invariant.0 in record {
      norm_value = (
        l.invariant.2
            ∙ ap (λ x. s.sum.norm + x) (Σ_used l.k s.parts (λ q. norm (digit_row s.base s.a q)) l.invariant.0 row),
        omega arith,
      );
      cells_left_value = sym (ap (λ t. s.sum.cells_left + cond t 0 1) left ∙ add-zero s.sum.cells_left);
    }

pub returns-then-is_zero-2 : goal.returns-then-is_zero-2
returns-then-is_zero-2 c =
    let s = c.args in
    let l = c.loop-k in
    let n : l.k ≡ s.parts = omega arith in
    let left = nothing_left s.base s.parts l.k s.a l.sizes n l.invariant.1 c.is_zero-2.ensures in record {
      norm_value = (
        l.invariant.2
            ∙ ap (λ k. s.sum.norm + Σ k (λ q. norm (digit_row s.base s.a q))) n,
        omega arith,
      );
      cells_left_value = sym (ap (λ t. s.sum.cells_left + cond t 0 1) (left
          ∙ c.if-is_zero-2.true) ∙ add-zero s.sum.cells_left);
    }

pub returns-else-is_zero-2 : goal.returns-else-is_zero-2
returns-else-is_zero-2 c =
    let s = c.args in
    let l = c.loop-k in
    let n : l.k ≡ s.parts = omega arith in
    let left = nothing_left s.base s.parts l.k s.a l.sizes n l.invariant.1 c.is_zero-2.ensures in record {
      norm_value = (
        l.invariant.2
            ∙ ap (λ k. s.sum.norm + Σ k (λ q. norm (digit_row s.base s.a q))) n,
        omega arith,
      );
      cells_left_value = sym (ap (λ t. s.sum.cells_left + cond t 0 1) (left ∙ c.if-is_zero-2.false));
    }
