use mathlib.Core.Path.{◌≡◌, refl, sym, ap, ◌∙◌}
use Prim.Native.Nat.{◌+◌}
use native.Mathlib.Omega.{arith}
use lib.ListN.{get_or}
use Rattle.spec_leaves.proofs.Leaf.{within-fine}
use Rattle.spec_protocol.specs.Checks.{first}
use Rattle.layout_section_one.specs.SectionOne.{limit_at}
use Rattle.spec_protocol.proofs.First.{first_next, first_found}
use Rattle.layout_section_one.proofs.Limits.{limited-low, limited-high}
use Rattle.layout_section_one.proofs.first_out_of_limits.Goals as goal

pub loop-k-init : goal.loop-k-init
unfolding first
loop-k-init c = refl

pub returns-then-value-least : goal.returns-then-value-least
returns-then-value-least c =
    let l = c.loop-k in
    let s = c.args in
    let value = get_or s.job.now (l.k + 1) 0 in
    let low = get_or s.least (l.k + 1) 0 in
    let high = get_or s.greatest (l.k + 1) 0 in
    first_found 12 l.k _ (omega arith) l.invariant (limited-low low high (l.k + 1) value (omega arith))

pub returns-then-greatest-place : goal.returns-then-greatest-place
returns-then-greatest-place c =
    let l = c.loop-k in
    let s = c.args in
    let value = get_or s.job.now (l.k + 1) 0 in
    let low = get_or s.least (l.k + 1) 0 in
    let high = get_or s.greatest (l.k + 1) 0 in
    first_found 12 l.k _ (omega arith) l.invariant (limited-high low high (l.k + 1) value (omega arith) (omega arith))

pub loop-k-preserved : goal.loop-k-preserved
loop-k-preserved c =
    let l = c.loop-k in
    let s = c.args in
    let value = get_or s.job.now (l.k + 1) 0 in
    let low = get_or s.least (l.k + 1) 0 in
    let high = get_or s.greatest (l.k + 1) 0 in
    first_next l.k _ l.invariant (within-fine 4 low high (l.k + 1) value (omega arith) (omega arith))

pub returns : goal.returns
returns c =
    let l = c.loop-k in
    let s = c.args in
    let e : l.k ≡ 12 = omega arith in
    sym l.invariant ∙ ap (λ n. first n (limit_at s.least s.greatest s.job.now)) e
