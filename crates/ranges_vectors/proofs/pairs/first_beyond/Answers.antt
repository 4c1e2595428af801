use mathlib.Core.Path.{◌≡◌, refl, sym, ◌∙◌, ap, ap₂}
use mathlib.Core.Bool.{cond, ◌||◌}
use native.Mathlib.Omega.{arith}
use mir.Syntax.{w64}
use mir.ValLaws.{to_z-of_z}
use Rattle.spec_leaves.specs.Answer.{fine, refused}
use Rattle.spec_protocol.specs.Checks.{first}
use Rattle.spec_protocol.specs.Ranges.{number_at, beyond_refusal}
use Rattle.spec_protocol.proofs.First.{first_next}
use Rattle.ranges_vectors.specs.Pairs.{is_beyond}
use Rattle.ranges_vectors.proofs.Tests.{pair-beyond, found_at, found_none}
use Rattle.ranges_vectors.proofs.pairs.first_beyond.Goals.{After-either_beyond}
use Rattle.ranges_vectors.proofs.pairs.first_beyond.Invariants.{test}
use Rattle.ranges_vectors.proofs.pairs.first_beyond.Goals as goal

tested : (c : After-either_beyond)
    → test c.args.lows.now c.args.highs.now c.loop-j.j ≡ cond c.either_beyond.result (refused 37 c.loop-j.j) fine
tested c =
    let j = c.loop-j.j in
    let low = c.number.ensures in
    let high = c.number-in-loop-j.ensures in
    pair-beyond j (number_at c.args.lows.now j) (number_at c.args.highs.now j)
    ∙ sym (ap (λ b. cond b (refused 37 j) fine) (c.either_beyond.ensures
    ∙ ap₂ (λ x y. is_beyond x || is_beyond y) (to_z-of_z w64 c.number.result low.1 ∙ low.0) (to_z-of_z w64 c.number-in-loop-j.result high.1 ∙ high.0)))

pub loop-j-init : goal.loop-j-init
unfolding first
loop-j-init c = (omega arith, refl)

pub loop-j-preserved : goal.loop-j-preserved
loop-j-preserved c =
    let f = test c.args.lows.now c.args.highs.now in
    (omega arith, first_next c.loop-j.j f c.loop-j.invariant.1 (tested (goal.at.loop-j-preserved c).After-either_beyond ∙ ap (λ b. cond b (refused 37 c.loop-j.j) fine) c.if-either_beyond.false))

pub returns-then-either_beyond : goal.returns-then-either_beyond
unfolding beyond_refusal
returns-then-either_beyond c =
    let f = test c.args.lows.now c.args.highs.now in
    found_at 37 c.loop-j.j c.args.count f (omega arith) c.loop-j.invariant.1
    (tested (goal.at.returns-then-either_beyond c).After-either_beyond ∙ ap (λ b. cond b (refused 37 c.loop-j.j) fine) c.if-either_beyond.true)

pub returns : goal.returns
unfolding beyond_refusal
returns c =
    found_none 37 c.loop-j.j c.args.count (test c.args.lows.now c.args.highs.now) (omega arith) c.loop-j.invariant.1
