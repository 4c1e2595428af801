-- `carry_add` meets its contract.
use Rattle.std.proofs.Common.{◌≡◌, ℕ, ◌+◌, ◌-◌, ◌<◌, ◌≤◌, cond, ltb, sym, ap, ◌∙◌, arith, le-ltb, lt-ltb}
use Rattle.spec_leaves.specs.Zq.{Q}
use Rattle.ring_zq.specs.Words.{lowered}
use Rattle.ring_zq.proofs.Words.{lowered-le}
use Rattle.core_jl_transpose.specs.Omega.{carried}
use Rattle.core_jl_transpose.proofs.carry_add.Goals as goal

-- a sum with it that is given in both cases
as_carried : (a b t r : ℕ) → t ≡ lowered b → (a + t < 4294967296 → r ≡ a + t) → (4294967296 ≤ a + t → r ≡ a + t - Q) → (test : Dec (a + t < 4294967296)) → r ≡ carried a b
as_carried a b t r e low high (yes l) = low l ∙ sym (ap (λ x. cond x (a + t) (a + t - Q)) (lt-ltb (a + t) 4294967296 l)) ∙ ap (λ t. cond (ltb (a + t) 4294967296) (a + t) (a + t - Q)) e
as_carried a b t r e low high (no l) = let m : 4294967296 ≤ a + t = omega arith in high m ∙ sym (ap (λ x. cond x (a + t) (a + t - Q)) (le-ltb (a + t) 4294967296 m))
    ∙ ap (λ t. cond (ltb (a + t) 4294967296) (a + t) (a + t - Q)) e

pub returns-then-sum-term : goal.returns-then-sum-term
returns-then-sum-term c =
    let s = c.args in
    let small : c.lowered-term.result ≤ Q = omega (arith, c.lowered-term.ensures, lowered-le s.b (omega arith)) in
    as_carried s.a s.b c.lowered-term.result _ c.lowered-term.ensures (λ h. omega arith) (λ h. omega arith) (no (omega arith))

pub returns-else-sum-term : goal.returns-else-sum-term
returns-else-sum-term c =
    let s = c.args in
    let small : c.lowered-term.result ≤ Q = omega (arith, c.lowered-term.ensures, lowered-le s.b (omega arith)) in
    let within : s.a + c.lowered-term.result < 4294967296 = omega arith in
    as_carried s.a s.b c.lowered-term.result _ c.lowered-term.ensures (λ h. omega arith) (λ h. omega arith) (yes within)

pub overflow_add-result : goal.overflow_add-result
overflow_add-result c = omega (arith, c.lowered-term.ensures, lowered-le c.args.b (omega arith))
