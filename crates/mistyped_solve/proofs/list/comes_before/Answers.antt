use mathlib.Core.Path.{ap₂, ◌∙◌}
use Rattle.spec_leaves.specs.Zq.{size}
use Rattle.spec_protocol.specs.Mistyped.{comes_before, sign_rank}
use Rattle.mistyped_solve.proofs.Order.{three_before, order-three}
use Rattle.mistyped_solve.proofs.list.comes_before.Goals as goal

pub returns : goal.returns
unfolding comes_before
returns c =
    let e = c.args.entry in
    let o = c.args.other in
    c.lt.ensures
    ∙ ap₂ three_before c.key.ensures c.key-2.ensures
    ∙ order-three (size e.number) (sign_rank e.number) e.index (size o.number) (sign_rank o.number) o.index
