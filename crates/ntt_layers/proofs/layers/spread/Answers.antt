use mathlib.Core.Path.{◌≡◌, sym, ◌∙◌, ap}
use Prim.Native.Nat.{◌+◌, ◌*◌, ◌≤◌, ◌<◌}
use native.Mathlib.Omega.{arith}
use lib.ListN.{get_or}
use Rattle.math.specs.lists.Table.{padded}
use Rattle.math.proofs.lists.Padded.{padded-none, padded-next, padded_done}
use Rattle.ntt_layers.specs.Layer.{spread_at, spread_of}
use Rattle.ntt_layers.proofs.Layer.{spread_at_even, spread_at_odd}
use Rattle.ntt_layers.proofs.layers.spread.Goals.{In-loop-t}
use Rattle.ntt_layers.proofs.layers.spread.Goals as goal

lower : (c : In-loop-t) → get_or c.args.x c.loop-t.t 0 < 3892314112
lower c = c.requires.room c.loop-t.t (omega arith)

upper : (c : In-loop-t) → get_or c.args.x (c.loop-t.t + 32) 0 ≤ 285600000
upper c = c.requires.upper c.loop-t.t (omega arith)

pub loop-t-init : goal.loop-t-init
loop-t-init c = (omega arith, padded-none 64 0 _)

pub loop-t-preserved : goal.loop-t-preserved
loop-t-preserved c =
    let s = c.args in
    let l = c.loop-t in
    let h : 2 * l.t < 64 = omega arith in
    let h' : 2 * l.t + 1 < 64 = omega arith in
    let more : 2 * l.t + 1 + 1 ≡ 2 * (l.t + 1) = omega arith in (
      omega arith,
      padded-next 64 0 (spread_at s.prime.delta s.x) _ (2 * l.t + 1) _
          (padded-next 64 0 (spread_at s.prime.delta s.x) _ (2 * l.t) _ l.invariant.1 h (sym (spread_at_even s.prime.delta s.x l.t))) h' (sym (spread_at_odd s.prime.delta s.x l.t))
          ∙ ap (λ m. padded 64 m 0 (spread_at s.prime.delta s.x)) more,
    )

pub returns : goal.returns
unfolding spread_of
returns c = padded_done 64 0 _ _ _ c.loop-t.invariant.1 (omega arith)

pub overflow_add-out-in-loop-t : goal.overflow_add-out-in-loop-t
overflow_add-out-in-loop-t c = omega (arith, c.requires.room c.loop-t.t (omega arith), c.requires.upper c.loop-t.t (omega arith))

pub overflow_sub-out : goal.overflow_sub-out
overflow_sub-out c = omega (arith, c.requires.small)

pub overflow_mul-out-in-loop-t : goal.overflow_mul-out-in-loop-t
overflow_mul-out-in-loop-t c = omega (arith, c.requires.small)

pub overflow_sub-out-in-loop-t : goal.overflow_sub-out-in-loop-t
overflow_sub-out-in-loop-t c = omega (arith, upper (goal.at.overflow_sub-out-in-loop-t c).In-loop-t, c.requires.small)

pub overflow_add-out-in-loop-t-3 : goal.overflow_add-out-in-loop-t-3
overflow_add-out-in-loop-t-3 c = omega (arith, lower (goal.at.overflow_add-out-in-loop-t-3 c).In-loop-t)
