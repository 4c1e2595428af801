-- `plain_is_faster` meets its contract.
use mathlib.Core.Path.{sym, ap, ◌∙◌}
use mathlib.Core.Bool.{◌||◌}
use Prim.Native.Nat.{◌*◌, ◌≤◌}
use native.Mathlib.Nat.{mul-le-mul}
use native.Mathlib.Omega.{arith}
use lib.Dec.{leb}
use borrow.Author.Tests.{eq-eqb, ne_eqb}
use Rattle.prover_commit.proofs.plain_is_faster.Goals as goal

pub overflow_mul-result : goal.overflow_mul-result
overflow_mul-result c =
    let m : c.args.n * c.args.r ≤ 4096 = mul-le-mul c.requires.0 c.requires.1 in
    omega (arith, m)

pub returns-then-n-eq1 : goal.returns-then-n-eq1
returns-then-n-eq1 c =
    let e = eq-eqb c.args.n 1 c.if-n-eq1.true in
    e ∙ sym (ap (λ b. b || leb (c.args.n * c.args.r) 4) e)

pub returns-else-n-eq1 : goal.returns-else-n-eq1
returns-else-n-eq1 c = sym (ap (λ b. b || leb (c.args.n * c.args.r) 4) (ne_eqb c.args.n 1 c.if-n-eq1.false))
