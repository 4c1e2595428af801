use mathlib.Core.Path.{◌≡◌, refl, sym, ◌∙◌, ap, ap₂}
use mathlib.Core.Bool.{cond}
use native.Mathlib.Omega.{arith}
use lib.Signed.{le_z}
use mir.Syntax.{w64}
use mir.ValLaws.{to_z-of_z}
use Rattle.spec_leaves.specs.Answer.{fine, refused}
use Rattle.spec_protocol.specs.Checks.{first}
use Rattle.spec_protocol.specs.Ranges.{crossed_refusal}
use Rattle.spec_protocol.proofs.First.{first_next}
use Rattle.ranges_vectors.proofs.Tests.{found_at, found_none}
use Rattle.ranges_vectors.proofs.pairs.first_crossed.Goals.{After-in_order}
use Rattle.ranges_vectors.proofs.pairs.first_crossed.Invariants.{test}
use Rattle.ranges_vectors.proofs.pairs.first_crossed.Goals as goal

tested : (c : After-in_order)
    → test c.args.lows.now c.args.highs.now c.loop-j.j ≡ cond c.in_order.result fine (refused 36 c.loop-j.j)
tested c =
    let low = c.number.ensures in
    let high = c.number-in-loop-j.ensures in
    sym (ap (λ b. cond b fine (refused 36 c.loop-j.j)) (c.in_order.ensures
    ∙ ap₂ le_z (to_z-of_z w64 c.number.result low.1 ∙ low.0) (to_z-of_z w64 c.number-in-loop-j.result high.1 ∙ high.0)))

pub loop-j-init : goal.loop-j-init
unfolding first
loop-j-init c = (omega arith, refl)

pub loop-j-preserved : goal.loop-j-preserved
loop-j-preserved c =
    let f = test c.args.lows.now c.args.highs.now in
    (omega arith, first_next c.loop-j.j f c.loop-j.invariant.1 (tested (goal.at.loop-j-preserved c).After-in_order ∙ ap (λ b. cond b fine (refused 36 c.loop-j.j)) c.if-not-in_order.false))

pub returns-then-not-in_order : goal.returns-then-not-in_order
unfolding crossed_refusal
returns-then-not-in_order c =
    let f = test c.args.lows.now c.args.highs.now in
    found_at 36 c.loop-j.j c.args.count f (omega arith) c.loop-j.invariant.1
    (tested (goal.at.returns-then-not-in_order c).After-in_order ∙ ap (λ b. cond b fine (refused 36 c.loop-j.j)) c.if-not-in_order.true)

pub returns : goal.returns
unfolding crossed_refusal
returns c =
    found_none 36 c.loop-j.j c.args.count (test c.args.lows.now c.args.highs.now) (omega arith) c.loop-j.invariant.1
