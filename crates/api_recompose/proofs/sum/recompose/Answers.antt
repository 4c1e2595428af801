use mathlib.Core.Path.{◌≡◌, refl, sym, ◌∙◌, ap}
use Prim.Native.Nat.{ℕ, ◌+◌, ◌*◌, ◌%◌, ◌^◌}
use native.Mathlib.Nat.{pow-suc, pow-zero}
use native.Mathlib.Numerals.{add-one}
use native.Mathlib.Omega.{arith}
use lib.ListN.{length, get_or}
use Rattle.math.specs.lists.Sum.{Σ}
use Rattle.math.proofs.lists.Sum.{Σ-suc}
use Rattle.spec_leaves.specs.Zq.{Q, zadd, zmul}
use Rattle.spec_leaves.specs.Recompose.{recompose}
use Rattle.spec_leaves.proofs.Modulo.{mul_mod_first, mul_mod_second}
use Rattle.api_recompose.proofs.sum.recompose.Goals as goal

-- one digit more in the sum
next-sum : (total digit weight sum power r : ℕ) → sum ≡ total % Q → power ≡ weight % Q → r ≡ zadd sum (zmul digit power) → r ≡ (total + digit * weight) % Q
next-sum total digit weight sum power r s p e = e ∙ rw p (omega (arith, mul_mod_second Q digit weight))

-- the next weight
next_power : (base i power r : ℕ) → power ≡ base ^ i % Q → r ≡ zmul power base → r ≡ base ^ (i + 1) % Q
next_power base i power r p e = e ∙ ap (λ x. (x * base) % Q) p ∙ mul_mod_first Q (base ^ i) base ∙ ap (λ x. x % Q) (sym (ap (λ n. base ^ n) (add-one i) ∙ pow-suc base i))

pub loop-digit-init : goal.loop-digit-init
unfolding Σ
loop-digit-init c = (refl, sym (ap (λ x. x % Q) (pow-zero _)))

pub loop-digit-preserved : goal.loop-digit-preserved
loop-digit-preserved c =
    let a = c.args in
    let l = c.loop-digit in
    let term : ℕ → ℕ = λ k. get_or a.digits.now k 0 * a.base ^ k in (
      next-sum (Σ l.digit-index term) (get_or a.digits.now l.digit-index 0) (a.base ^ l.digit-index) _ _ _ l.invariant.0 l.invariant.1 (c.add-sum.ensures ∙ ap (zadd l.sum.0) c.mul.ensures)
          ∙ ap (λ t. t % Q) (sym (Σ-suc l.digit-index term)),
      next_power a.base l.digit-index _ _ l.invariant.1 c.mul-power.ensures,
    )

pub returns : goal.returns
unfolding recompose
returns c =
    let l = c.loop-digit in
    let n : l.digit-index ≡ length c.args.digits.now = omega arith in
    l.invariant.0 ∙ ap (λ m. Σ m (λ k. get_or c.args.digits.now k 0 * c.args.base ^ k) % Q) n
