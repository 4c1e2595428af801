use mathlib.Core.Path.{◌≡◌, sym, ◌∙◌, ap, ap₂}
use Prim.Native.Nat.{◌+◌, ◌*◌, ◌<◌}
use native.Mathlib.Nat.{add_comm}
use native.Mathlib.Omega.{arith}
use borrow.Author.Rules.{rules}
use lib.ListN.{get_or, set}
use mir.Val.{Fits}
use mir.Syntax.{w32}
use Rattle.math.specs.lists.Table.{table}
use Rattle.math.specs.lists.Part.{splice}
use Rattle.math.proofs.lists.Table.{length-table}
use Rattle.math.proofs.lists.Splice.{splice-nil, get_or-splice-after}
use Rattle.math.proofs.lists.Fill.{entry-stored}
use Rattle.ntt_layers.specs.Fold.{montgomery}
use Rattle.ntt_layers.specs.Layer.{turned, turned_of}
use Rattle.ntt_layers.proofs.Layer.{times-bound}
use Rattle.ntt_layers.proofs.layers.turn.Goals.{In-loop-t, After-from-in-loop-t}
use Rattle.ntt_layers.proofs.layers.turn.Goals as goal

-- entry t + 32 is still that of x
unturned : (c : In-loop-t) → get_or c.loop-t.out (c.loop-t.t + 32) 0 ≡ get_or c.args.x (c.loop-t.t + 32) 0
unturned c =
    let s = c.args in
    let l = c.loop-t in
    let f = turned s.prime.delta s.prime.opposite s.w.now s.at s.x in
    ap (λ o. get_or o (l.t + 32) 0) l.invariant.1 ∙ get_or-splice-after s.x 32 (table l.t f) (l.t + 32) 0 (omega (arith, length-table l.t f))

-- the product of a twiddle and an entry is below 2^59
product : (c : After-from-in-loop-t) → (i : get_or c.loop-t.out (c.loop-t.t + 32) 0 ≡ get_or c.args.x (c.loop-t.t + 32) 0) → c.from.result * c.from-in-loop-t.result < 576460752303423488
product c i =
    let power : c.from.result < 134217728 = omega (arith, c.from.ensures, c.requires.below c.loop-t.t (omega arith)) in
    let word : Fits w32 (get_or c.args.x (c.loop-t.t + 32) 0) = search rules in
    times-bound c.from.result c.from-in-loop-t.result power (omega (arith, c.from-in-loop-t.ensures))

pub loop-t-init : goal.loop-t-init
unfolding table
loop-t-init c = (omega arith, sym (splice-nil _ 32))

pub montgomery-requires : goal.montgomery-requires
montgomery-requires c = product (goal.at.montgomery-requires c).After-from-in-loop-t (unturned (goal.at.montgomery-requires c).In-loop-t)

pub loop-t-preserved : goal.loop-t-preserved
unfolding turned
loop-t-preserved c =
    let s = c.args in
    let l = c.loop-t in
    let f = turned s.prime.delta s.prime.opposite s.w.now s.at s.x in
    let read = unturned (goal.at.loop-t-preserved c).In-loop-t in (
      omega arith,
      ap (λ i. set l.out i c.montgomery.result) (add_comm l.t 32)
          ∙ entry-stored s.x l.out 32 l.t f c.montgomery.result l.invariant.1
          (c.montgomery.ensures.0 ∙ ap₂ (λ p q. montgomery s.prime.delta s.prime.opposite (p * q)) c.from.ensures (c.from-in-loop-t.ensures ∙ read)),
    )

pub returns : goal.returns
unfolding turned_of
returns c =
    let s = c.args in
    let n : c.loop-t.t ≡ 32 = omega arith in
    c.loop-t.invariant.1 ∙ ap (λ n. splice s.x 32 (table n (turned s.prime.delta s.prime.opposite s.w.now s.at s.x))) n

pub overflow_mul-from : goal.overflow_mul-from
overflow_mul-from c = omega (arith, product (goal.at.overflow_mul-from c).After-from-in-loop-t (unturned (goal.at.overflow_mul-from c).In-loop-t))
