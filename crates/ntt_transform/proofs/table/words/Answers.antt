use mathlib.Core.Path.{refl, ◌∙◌, ap}
use Prim.Native.Nat.{ℕ, ◌<◌}
use native.Mathlib.Omega.{arith}
use lib.ListN.{get_or}
use Rattle.math.proofs.lists.Padded.{padded-none, padded-below, padded-next, padded_done}
use Rattle.ntt_transform.specs.Roots.{scaled, twiddle, twiddle_table}
use Rattle.ntt_transform.proofs.Rule.{indexes, indexes_are}
use Rattle.ntt_transform.proofs.Roots.{index-small}
use Rattle.ntt_transform.proofs.table.words.Goals as goal

index : (m : ℕ) → m < 1152 → get_or indexes m 0 < 384
index m h = omega (arith, indexes_are m h, index-small m h)

pub loop-m-init : goal.loop-m-init
loop-m-init c = (omega arith, padded-none 1152 0 twiddle)

pub overflow_cast-e : goal.overflow_cast-e
unfolding indexes
overflow_cast-e c = omega (arith, index c.loop-m.m (omega arith))

pub offset_bounds-powers-e : goal.offset_bounds-powers-e
unfolding indexes
offset_bounds-powers-e c = omega (arith, index c.loop-m.m (omega arith))

pub bounds-powers-e : goal.bounds-powers-e
unfolding indexes
bounds-powers-e c = omega (arith, index c.loop-m.m (omega arith))

pub loop-m-preserved : goal.loop-m-preserved
unfolding indexes twiddle
loop-m-preserved c =
    let m = c.loop-m.m in
    let h : m < 1152 = omega arith in (
      omega arith,
      padded-next 1152 0 twiddle _ m _ c.loop-m.invariant.1 h
          (ap (λ l. get_or l (get_or indexes m 0) 0) c.scale-3.ensures ∙ padded-below 384 0 scaled 384 (get_or indexes m 0) (index m h) (index m h) ∙ ap scaled (indexes_are m h)),
    )

pub returns : goal.returns
unfolding twiddle_table
returns c = padded_done 1152 0 twiddle _ _ c.loop-m.invariant.1 (omega arith)

pub scale-requires : goal.scale-requires
scale-requires c = (omega arith, refl, padded-none 384 0 scaled)

pub scale-requires-2 : goal.scale-requires-2
scale-requires-2 c = (omega arith, refl, c.scale.ensures)

pub scale-requires-3 : goal.scale-requires-3
scale-requires-3 c = (omega arith, refl, c.scale-2.ensures)
