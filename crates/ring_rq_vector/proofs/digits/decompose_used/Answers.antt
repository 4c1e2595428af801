use mathlib.Core.Path.{◌≡◌, refl, sym, ◌∙◌, ap}
use native.Mathlib.Omega.{arith}
use lib.ListN.{length}
use Rattle.math.specs.lists.Table.{table}
use Rattle.math.specs.lists.Part.{part, splice}
use Rattle.math.proofs.lists.Splice.{length-splice}
use Rattle.spec_leaves.specs.Ring.{element}
use Rattle.spec_protocol.specs.Formulas.{flat, digit_element}
use Rattle.spec_protocol.proofs.Stored.{stored-none, stored_next}
use Rattle.ring_rq_digits.proofs.Sizes.{sizes_first, sizes_next, row_is, rows_zero}
use Rattle.ring_rq_vector.proofs.Rows.{row_words, digit-nil}
use Rattle.ring_rq_vector.proofs.digits.decompose_used.Goals as goal

pub loop-k-init : goal.loop-k-init
loop-k-init c = (omega arith, omega arith, sizes_first _ _ _ c.sizes_of-sizes.ensures, stored-none _ _ _, refl)

pub returns-then-is_zero : goal.returns-then-is_zero
returns-then-is_zero c =
    let s = c.args in
    let l = c.loop-k in
    let settled = c.settled in
    let a = settled.result.coeffs in
    let cell = settled.ensures.0 ∙ ap element c.load.ensures in record {
      upper_bound = (l.invariant.0, l.invariant.3 ∙ ap (λ e. splice s.to.now s.to_at (flat (table l.k (digit_element s.base e)))) cell);
      by_index = λ k h _. ap (λ e. digit_element s.base e k) (sym cell)
          ∙ digit-nil s.base a k settled.ensures.1 (rows_zero s.base a l.sizes l.k l.invariant.2 (sym c.is_zero.ensures ∙ c.if-is_zero.true) k h);
    }

pub loop-k-preserved : goal.loop-k-preserved
loop-k-preserved c =
    let s = c.args in
    let l = c.loop-k in
    let settled = c.settled in
    let a = settled.result.coeffs in
    let taken = c.take_row-taken in
    let e = c.store.ensures in
    let row = row_is s.base a l.sizes taken.result.row l.k l.invariant.2 taken.ensures.0 ∙ row_words s.base a l.k settled.ensures.1 in (
      omega arith,
      omega arith,
      sizes_next s.base a l.sizes taken.result.sizes l.k l.invariant.2 taken.ensures.1,
      e
          ∙ ap (λ p. splice l.to p taken.result.row) l.invariant.1
          ∙ stored_next s.to.now l.to s.to_at l.k (digit_element s.base (element a)) taken.result.row l.invariant.3 row,
      ap length e ∙ length-splice _ _ _ ∙ l.invariant.4,
    )

pub returns : goal.returns
returns c =
    let s = c.args in
    let l = c.loop-k in
    let settled = c.settled in
    let cell = settled.ensures.0 ∙ ap element c.load.ensures in
    let n : l.k ≡ s.parts = omega arith in record {
      upper_bound = (
        omega arith,
        l.invariant.3
            ∙ ap (λ e. splice s.to.now s.to_at (flat (table l.k (digit_element s.base e)))) cell
            ∙ ap (λ k. splice s.to.now s.to_at (flat (table k (digit_element s.base (element (part s.from.now s.at 64)))))) n,
      );
      by_index = λ k h m. absurd (omega arith);
    }
