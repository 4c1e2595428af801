use mathlib.Core.Path.{◌≡◌, sym, ◌∙◌, ap₂}
use Prim.Native.Nat.{◌+◌, ◌-◌, ◌*◌, ◌%◌, ◌<◌}
use native.Mathlib.Nat.{mod-eq_of_lt}
use native.Mathlib.Omega.{arith}
use Rattle.ntt_layers.specs.Fold.{montgomery}
use Rattle.ntt_layers.specs.Layer.{lower_at, upper_at, inverse_layer_at, inverse_layer_of}
use Rattle.ntt_layers.proofs.Halves.{halves_none, halves_next, halves_done}
use Rattle.ntt_layers.proofs.Layer.{times-bound, difference-bound, inverse_layer_at_lower, inverse_layer_at-upper}
use Rattle.ntt_layers.proofs.layers.inverse_layer.Goals.{After-from-in-loop-t-2}
use Rattle.ntt_layers.proofs.layers.inverse_layer.Goals as goal

-- the product of a twiddle and a difference is below 2^59
product : (c : After-from-in-loop-t-2)
    → c.from-in-loop-t-2.result * ((c.from.result + (3 * (134217728 - c.args.prime.delta) - c.from-in-loop-t.result)) % 4294967296) < 576460752303423488
product c =
    let small : c.from-in-loop-t-2.result < 134217728 = omega (arith, c.from-in-loop-t-2.ensures, c.requires.powers.below c.loop-t.t (omega arith)) in
    times-bound c.from-in-loop-t-2.result ((c.from.result + (3 * (134217728 - c.args.prime.delta) - c.from-in-loop-t.result)) % 4294967296) small (omega arith)

pub overflow_sub-difference-in-loop-t : goal.overflow_sub-difference-in-loop-t
overflow_sub-difference-in-loop-t c = omega (arith, c.requires.room (2 * c.loop-t.t) (omega arith), c.from-in-loop-t.ensures)

pub overflow_add-difference : goal.overflow_add-difference
overflow_add-difference c = omega (arith, c.requires.room (2 * c.loop-t.t + 1) (omega arith), c.from.ensures)

pub overflow_mul-from : goal.overflow_mul-from
overflow_mul-from c = omega (arith, product (goal.at.overflow_mul-from c).After-from-in-loop-t-2)

pub montgomery-requires : goal.montgomery-requires
montgomery-requires c = product (goal.at.montgomery-requires c).After-from-in-loop-t-2

pub loop-t-init : goal.loop-t-init
loop-t-init c = (omega arith, halves_none (inverse_layer_at _ _ _ _ _))

pub overflow_add-u : goal.overflow_add-u
overflow_add-u c = omega (
  arith,
  c.requires.room (2 * c.loop-t.t) (omega arith),
  c.requires.room (2 * c.loop-t.t + 1) (omega arith),
)

pub loop-t-preserved : goal.loop-t-preserved
unfolding lower_at upper_at
loop-t-preserved c =
    let s = c.args in
    let l = c.loop-t in
    let w = s.w.now in
    let m : l.t < 32 = omega arith in (
      omega arith,
      halves_next (inverse_layer_at s.prime.delta s.prime.opposite w s.at s.y) _ l.t _ _ l.invariant.1 m
          (c.fold_word.ensures ∙ sym (inverse_layer_at_lower s.prime.delta s.prime.opposite w s.at s.y l.t m))
          (c.montgomery.ensures.0
          ∙ ap₂ (λ x y. montgomery s.prime.delta s.prime.opposite (x * y)) c.from-in-loop-t-2.ensures
          (ap₂ (λ x y. (x + (3 * (134217728 - s.prime.delta) - y)) % 4294967296) c.from.ensures c.from-in-loop-t.ensures
          ∙ mod-eq_of_lt (difference-bound s.prime.delta s.prime.opposite w s.at s.y c.requires l.t m))
          ∙ sym (inverse_layer_at-upper s.prime.delta s.prime.opposite w s.at s.y l.t)),
    )

pub returns : goal.returns
unfolding inverse_layer_of
returns c =
    let n : c.loop-t.t ≡ 32 = omega arith in
    halves_done _ _ _ c.loop-t.invariant.1 n
