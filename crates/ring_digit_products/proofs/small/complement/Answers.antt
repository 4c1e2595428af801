use mathlib.Core.Path.{◌≡◌, refl, sym, ◌∙◌, ap}
use Prim.Native.Nat.{ℕ, ◌+◌, ◌-◌, ◌*◌, ◌≤◌, ◌^◌}
use native.Mathlib.Nat.{mul-le-mul}
use native.Mathlib.Omega.{arith}
use lib.ListN.{get_or}
use Rattle.math.specs.lists.Sum.{Σ}
use Rattle.math.proofs.lists.Sum.{Σ-suc}
use Rattle.ring_digit_products.specs.Small.{lift_q}
use Rattle.ring_digit_products.proofs.small.complement.Goals as goal

-- half the base times the sum is at most 2^54
product_small : (half sum i : ℕ) → half ≤ 2 ^ 15 → sum ≤ lift_q * i → i ≤ 64 → half * sum ≤ 2 ^ 54
product_small half sum i h s l =
    let most : sum ≤ 549755813888 = omega arith in
    mul-le-mul h most

pub loop-i-init : goal.loop-i-init
unfolding Σ
loop-i-init c = (omega arith, refl, omega arith)

pub overflow_sub-sum : goal.overflow_sub-sum
overflow_sub-sum c = omega (arith, c.requires.1 c.loop-i.i (omega arith))

pub loop-i-preserved : goal.loop-i-preserved
loop-i-preserved c =
    let l = c.loop-i in
    let f : ℕ → ℕ = λ j. lift_q - get_or c.args.x.now j 0 in
    (omega arith, ap (λ t. t + f l.i) l.invariant.1 ∙ sym (Σ-suc l.i f), omega arith)

pub overflow_mul-result : goal.overflow_mul-result
overflow_mul-result c = let l = c.loop-i in omega (arith, product_small c.args.half l.sum l.i c.requires.2 l.invariant.2 l.invariant.0)

pub returns : goal.returns
returns c =
    let l = c.loop-i in
    let s = c.args in
    let n : l.i ≡ 64 = omega arith in
    (ap (λ t. s.half * t) (l.invariant.1 ∙ ap (λ m. Σ m (λ j. lift_q - get_or s.x.now j 0)) n), product_small s.half l.sum l.i c.requires.2 l.invariant.2 l.invariant.0)
