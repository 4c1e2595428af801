-- `Zq::size` meets its contract.
use Rattle.std.proofs.Common.{◌≡◌, ◌-◌, cond, sym, ap, ◌∙◌, arith}
use Rattle.spec_leaves.specs.Zq.{Q}
use Rattle.ring_zq.proofs.zq.Zq.size.Goals as goal

pub returns-then-self-lt-Q : goal.returns-then-self-lt-Q
returns-then-self-lt-Q c = simp (sym c.is_larger_than_half.ensures ∙ c.if-is_larger_than_half.true)

pub returns-else-self-lt-Q : goal.returns-else-self-lt-Q
returns-else-self-lt-Q c =
    let a = c.args.self.0 in
    let none : 0 ≡ Q - a = omega arith in
    none ∙ ap (λ t. cond t (Q - a) a) (sym (sym c.is_larger_than_half.ensures ∙ c.if-is_larger_than_half.true))

pub returns-else-is_larger_than_half : goal.returns-else-is_larger_than_half
returns-else-is_larger_than_half c = simp (sym c.is_larger_than_half.ensures ∙ c.if-is_larger_than_half.false)
