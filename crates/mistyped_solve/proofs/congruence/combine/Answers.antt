use mathlib.Core.Path.{ap, ◌∙◌}
use native.Mathlib.Nat.{mod-lt}
use native.Mathlib.Omega.{arith}
use Rattle.spec_leaves.specs.Zq.{zsub}
use Rattle.mistyped_solve.proofs.Division.{carried-start, carried-next, carried_none, carried-one}
use Rattle.mistyped_solve.proofs.congruence.combine.Goals as goal

pub loop-lower-preserved : goal.loop-lower-preserved
loop-lower-preserved c =
    let l = c.loop-lower in
    carried-next c.args.first c.args.second l.invariant _ (c.sub.ensures ∙ ap (zsub l.upper.value) c.mul.ensures)

pub returns-then-lower-ne0 : goal.returns-then-lower-ne0
returns-then-lower-ne0 c = carried_none c.args.first c.args.second c.loop-lower.invariant (omega arith) c.if-lower-ne0.true

pub returns : goal.returns
returns c = carried-one c.args.first c.args.second c.loop-lower.invariant (omega arith) c.if-lower-ne0.false

pub loop-lower-init : goal.loop-lower-init
loop-lower-init c = carried-start c.args.first c.args.second c.requires.0 c.requires.1

pub loop-lower-smaller : goal.loop-lower-smaller
loop-lower-smaller c = mod-lt c.loop-lower.upper.factor (omega arith)
