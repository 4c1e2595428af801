use mathlib.Core.Path.{◌≡◌, refl, ap, ◌∙◌}
use Prim.Native.Nat.{◌+◌, ◌<◌}
use native.Mathlib.Omega.{arith}
use lib.ListN.{length}
use Rattle.core_aggregate_ntt.specs.Terms.{terms_added}
use Rattle.core_aggregate_ntt.proofs.Terms.{length-terms, terms-none, terms-next, terms-small, one_value}
use Rattle.core_aggregate_ntt.proofs.mix.add_terms.Goals as goal

pub loop-m-init : goal.loop-m-init
loop-m-init c =
    (omega arith, omega arith, omega arith, terms-none _ _ _ _ _ _ c.requires.2.whole, refl)

pub add_term-requires : goal.add_term-requires
add_term-requires c =
    let s = c.args in
    let l = c.loop-m in
    let more : l.m < s.run.count = omega arith in (
      omega (arith, c.requires.0.within l.m more),
      one_value s.weights.now s.weights_at s.run.count l.m l.weight c.requires.1 more l.invariant.2,
      terms-small s.sums.now s.weights.now s.weights_at s.from.now s.run.at s.run.step l.sums s.run.count l.m l.invariant.3 more c.requires.1
          (λ j. omega (arith, c.type_inv.from j)) c.requires.2,
    )

pub overflow_add-i : goal.overflow_add-i
overflow_add-i c =
    omega (arith, c.requires.0.within c.loop-m.m (omega arith), c.requires.0.near)

pub overflow_add-weight : goal.overflow_add-weight
overflow_add-weight c =
    omega (arith, c.requires.1.within)

pub loop-m-preserved : goal.loop-m-preserved
loop-m-preserved c =
    let s = c.args in
    let l = c.loop-m in
    let e = terms-next s.sums.now s.weights.now s.weights_at s.from.now s.run.at s.run.step l.sums _ l.m l.weight l.i l.invariant.3 l.invariant.2 l.invariant.1
    c.add_term.ensures in
    let size = length-terms s.sums.now s.weights.now s.weights_at s.from.now s.run.at s.run.step (l.m + 1) in
    (omega arith, omega arith, omega arith, e, ap length e ∙ omega (arith, size, c.requires.2.whole))

pub returns : goal.returns
returns c =
    let s = c.args in
    let l = c.loop-m in
    let n : l.m ≡ s.run.count = omega arith in
    l.invariant.3 ∙ ap (terms_added s.sums.now s.weights.now s.weights_at s.from.now s.run.at s.run.step) n
