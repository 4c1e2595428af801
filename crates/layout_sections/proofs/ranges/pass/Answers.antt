use native.Mathlib.Nat.{le_refl}
use native.Mathlib.Omega.{arith}
use Rattle.layout_sections.proofs.Search.{passed_none, passed_more}
use Rattle.layout_sections.proofs.ranges.pass.Goals as goal

pub returns-then-greatest-eq4294967295 : goal.returns-then-greatest-eq4294967295
returns-then-greatest-eq4294967295 c = record { after = omega arith; before = le_refl _; most = λ i g l. omega (arith, c.type_inv.words i) }

pub loop-at-init : goal.loop-at-init
loop-at-init c = passed_none _ _ _ _ (omega arith)

pub returns-then-not-within : goal.returns-then-not-within
returns-then-not-within c = c.loop-at.invariant

pub loop-at-preserved : goal.loop-at-preserved
loop-at-preserved c =
    let l = c.loop-at in
    passed_more _ _ _ _ l.at 256 l.invariant (omega arith) (c.within.ensures c.if-not-within.false)

pub returns : goal.returns
returns c = c.loop-at.invariant
