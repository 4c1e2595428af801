use mathlib.Core.Path.{◌≡◌, refl, sym, ◌∙◌, ap, ap₂}
use Prim.Native.Nat.{ℕ, ◌+◌}
use native.Mathlib.Omega.{arith}
use Rattle.math.specs.lists.Sum.{Σ}
use Rattle.math.proofs.lists.Sum.{Σ-suc}
use Rattle.spec_leaves.specs.Ring.{element}
use Rattle.ring_inner_product.specs.Run.{run}
use Rattle.spec_protocol.specs.Formulas.{one_if_left}
use Rattle.spec_protocol.specs.Conditions.{digits_norm}
use Rattle.spec_protocol.proofs.Norms.{digits_of-table}
use Rattle.spec_protocol.proofs.CellsLeft.{count_of-table, count-at_most}
use Rattle.ring_digit_norms.proofs.Squares.{rows-norm}
use Rattle.ring_digit_norms.proofs.LeftOver.{left_of-words}
use Rattle.ring_digit_norms.proofs.norm.digits_norm.Goals as goal

pub loop-c-init : goal.loop-c-init
unfolding Σ
loop-c-init c = (omega arith, refl, omega arith, refl)

pub add_digits_norm-total-requires : goal.add_digits_norm-total-requires
add_digits_norm-total-requires c =
    let s = c.args in
    let l = c.loop-c in
    let f = run s.from.now s.at 64 in
    omega (arith, count_of-table s.base s.parts l.c f, count-at_most s.base s.parts l.c f)

pub loop-c-preserved : goal.loop-c-preserved
loop-c-preserved c =
    let s = c.args in
    let l = c.loop-c in
    let settled = c.settled in
    let a = settled.result.coeffs in
    let fit = settled.ensures.1 in
    let f : ℕ → ℕ = λ m. digits_norm s.base s.parts (run s.from.now s.at 64 m) in
    let cell : element a ≡ run s.from.now s.at 64 l.c = settled.ensures.0 ∙ ap element c.load.ensures in (
      omega arith,
      c.add_digits_norm-total.ensures.norm_value.0
          ∙ ap₂ ◌+◌ l.invariant.1 (rows-norm s.base s.parts a fit ∙ ap (digits_norm s.base s.parts) cell)
          ∙ sym (Σ-suc l.c f),
      omega arith,
      c.add_digits_norm-total.ensures.cells_left_value
          ∙ ap₂ ◌+◌ l.invariant.3 (left_of-words s.base s.parts a fit ∙ ap (one_if_left s.base s.parts) cell)
          ∙ sym (Σ-suc l.c (λ m. one_if_left s.base s.parts (run s.from.now s.at 64 m))),
    )

pub returns : goal.returns
returns c =
    let s = c.args in
    let l = c.loop-c in
    let n : l.c ≡ s.cells = omega arith in
    let f = run s.from.now s.at 64 in record {
      norm_value = (
        l.invariant.1
            ∙ ap (λ k. Σ k (λ m. digits_norm s.base s.parts (f m))) n
            ∙ sym (digits_of-table s.base s.parts s.cells f),
        omega arith,
      );
      cells_left_value = l.invariant.3
          ∙ ap (λ k. Σ k (λ m. one_if_left s.base s.parts (f m))) n
          ∙ sym (count_of-table s.base s.parts s.cells f);
    }
