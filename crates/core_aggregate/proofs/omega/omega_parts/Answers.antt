use mathlib.Core.Path.{refl, ◌∙◌, ap, ap₂}
use Prim.Native.Nat.{◌+◌, ◌*◌, ◌≤◌, ◌<◌}
use native.Mathlib.Nat.{mul-le-mul_right}
use native.Mathlib.Omega.{arith}
use lib.ListN.{length}
use Rattle.math.specs.lists.Table.{table}
use Rattle.math.specs.lists.Part.{splice}
use Rattle.math.proofs.lists.Splice.{length-splice}
use Rattle.core_jl_transpose.specs.Omega.{omega_element}
use Rattle.spec_protocol.specs.Formulas.{flat}
use Rattle.spec_protocol.proofs.Stored.{rows_none, rows_next, rows_all}
use Rattle.core_aggregate.proofs.omega.omega_parts.Goals.{After-slice_known-in-loop-i-1}
use Rattle.core_aggregate.proofs.omega.omega_parts.Goals as goal

-- the elements of the vectors up to the turn's are among those of all
vectors-within : (c : After-slice_known-in-loop-i-1)
    → (c.loop-i.i + 1) * c.args.n
    ≤ c.args.r * c.args.n
vectors-within c = mul-le-mul_right c.args.n (omega arith)

pub omega_part-requires : goal.omega_part-requires
omega_part-requires c =
    let s = c.args in
    let h = c.requires in
    let more : c.loop-i.i < s.r = omega arith in
    (omega (arith, mul-le-mul_right s.n more, h.0), h.1, omega (arith, mul-le-mul_right s.n more, h.2))

pub overflow_add-pi : goal.overflow_add-pi
overflow_add-pi c = omega (arith, vectors-within (goal.at.overflow_add-pi c).After-slice_known-in-loop-i-1, c.requires.0)

pub overflow_add-place : goal.overflow_add-place
overflow_add-place c = omega (arith, vectors-within (goal.at.overflow_add-place c).After-slice_known-in-loop-i-1, c.requires.2)

pub loop-i-preserved : goal.loop-i-preserved
loop-i-preserved c =
    let s = c.args in
    let l = c.loop-i in
    let w = c.omega_part.ensures
    ∙ ap₂ (λ place pi. splice l.out place (flat (table s.n (omega_element s.randomness.now pi s.omega_at s.n)))) l.invariant.2 l.invariant.1
    ∙ rows_next _ _ _ l.i _ _ l.invariant.3 in
    (omega arith, omega arith, omega arith, w, ap length w ∙ length-splice _ _ _)

pub loop-i-init : goal.loop-i-init
loop-i-init c = (omega arith, omega arith, omega arith, rows_none _ _ _ _, refl)

pub returns : goal.returns
returns c = rows_all _ _ _ _ _ _ _ c.loop-i.invariant.3 (omega arith)
