use mathlib.Core.Path.{◌≡◌, ◌∙◌}
use native.Mathlib.Omega.{arith}
use borrow.Author.Rules.{rules}
use lib.ListN.{get_or}
use mir.Val.{Fits}
use mir.Syntax.{w32}
use Rattle.ntt_product.proofs.Residue.{Words}
use Rattle.bench_calls.proofs.Steps.{held_none, held-room, held_next, held-inverse}
use Rattle.bench_calls.proofs.ntt.with_ntt_form.Goals as goal

pub loop-m-init : goal.loop-m-init
loop-m-init c = (omega arith, λ a b wa wb tx ty. held_none a b _ _ _ c.no_sums-sums.ensures.0 c.no_sums-sums.ensures.1 c.no_sums-sums.ensures.2)

pub add_product-sums-requires : goal.add_product-sums-requires
add_product-sums-requires c =
    let s = c.args in
    let wa : Words s.a = λ k l. let f : Fits w32 (get_or s.a k 0) = search rules in omega arith in
    let wb : Words s.b = λ k l. let f : Fits w32 (get_or s.b k 0) = search rules in omega arith in
    let l = c.loop-m in
    let tx = c.transform-x.ensures in
    let ty = c.transform-y.ensures in
    let answer = held-room l.m (omega arith) s.a s.b wa wb _ _ _ _ _ _ _ _ _ (l.invariant.1 s.a s.b wa wb tx ty) tx ty in
    record { first = answer.0; second = answer.1.0; third = answer.1.1 }

pub loop-m-preserved : goal.loop-m-preserved
loop-m-preserved c =
    let l = c.loop-m in
    let e = c.add_product-sums.ensures in
    (omega arith, λ a b wa wb tx ty. held_next l.m (omega arith) a b wa wb _ _ _ _ _ _ _ _ _ (l.invariant.1 a b wa wb tx ty) tx ty _ _ _ e.first e.second e.third)

pub returns : goal.returns
returns c =
    let s = c.args in
    let wa : Words s.a = λ k l. let f : Fits w32 (get_or s.a k 0) = search rules in omega arith in
    let wb : Words s.b = λ k l. let f : Fits w32 (get_or s.b k 0) = search rules in omega arith in
    let l = c.loop-m in
    let tx = c.transform-x.ensures in
    let ty = c.transform-y.ensures in
    let n : l.m ≡ s.n = omega arith in
    c.inverse.ensures ∙ held-inverse s.n l.m n c.requires s.a s.b wa wb _ _ _
    (l.invariant.1 s.a s.b wa wb tx ty)
