use mathlib.Core.Path.{refl, ◌∙◌, ap, ap₂}
use Prim.Native.Nat.{ℕ, ◌+◌, ◌*◌, ◌≤◌, ◌<◌}
use native.Mathlib.Nat.{mul-le-mul_right}
use native.Mathlib.Omega.{arith}
use lib.ListN.{length}
use Rattle.math.specs.lists.Table.{table}
use Rattle.spec_leaves.specs.Rq.{Element}
use Rattle.core_jl_transpose.specs.Omega.{omega_element}
use Rattle.core_jl_tables.specs.Fours.{spread}
use Rattle.core_jl_tables.proofs.Spread.{length-spread}
use Rattle.spec_protocol.specs.Formulas.{flat}
use Rattle.core_aggregate.proofs.Fours.{side_none, side_next, side_all}
use Rattle.core_aggregate.proofs.omega.omega_parts_of_four.Goals.{After-slice_known-in-loop-i-1}
use Rattle.core_aggregate.proofs.omega.omega_parts_of_four.Goals as goal

-- the elements of the vectors up to the turn's are among those of all
vectors-within : (c : After-slice_known-in-loop-i-1)
    → (c.loop-i.i + 1) * c.args.n
    ≤ c.args.r * c.args.n
vectors-within c = mul-le-mul_right c.args.n (omega arith)

pub omega_part-requires : goal.omega_part-requires
omega_part-requires c =
    let s = c.args in
    let h = c.requires in
    let more : c.loop-i.i < s.r = omega arith in
    (omega (arith, mul-le-mul_right s.n more, h.0), h.1, omega (arith, mul-le-mul_right s.n more, h.2), h.4)

pub overflow_add-pi : goal.overflow_add-pi
overflow_add-pi c = omega (arith, vectors-within (goal.at.overflow_add-pi c).After-slice_known-in-loop-i-1, c.requires.0)

pub overflow_add-place : goal.overflow_add-place
overflow_add-place c = omega (arith, vectors-within (goal.at.overflow_add-place c).After-slice_known-in-loop-i-1, c.requires.2)

pub loop-i-preserved : goal.loop-i-preserved
loop-i-preserved c =
    let s = c.args in
    let l = c.loop-i in
    let more : l.i < s.r = omega arith in
    let f : ℕ → ℕ → ℕ → Element = λ k i. omega_element s.randomness.now (s.pi_at + i * 256 * (64 * s.n)) (s.omega_at + k * 256) s.n in
    let w = c.omega_part.ensures
    ∙ ap₂ (λ place pi. spread l.out place (64 * (s.r * s.n)) 4 (λ k. flat (table s.n (omega_element s.randomness.now pi (s.omega_at + k * 256) s.n)))) l.invariant.2 l.invariant.1
    ∙ side_next s.out.now s.to s.r s.n 4 f l.out l.i more l.invariant.3 in
    (omega arith, omega arith, omega arith, w, ap length w ∙ length-spread _ _ _ _ _)

pub returns : goal.returns
returns c =
    let s = c.args in
    let f : ℕ → ℕ → ℕ → Element = λ k i. omega_element s.randomness.now (s.pi_at + i * 256 * (64 * s.n)) (s.omega_at + k * 256) s.n in
    side_all s.out.now s.to s.r s.n 4 f _ c.loop-i.i (omega arith) c.loop-i.invariant.3

pub overflow_mul-step : goal.overflow_mul-step
overflow_mul-step c = omega (arith, mul-le-mul_right c.args.n c.requires.3)

pub overflow_mul-step-2 : goal.overflow_mul-step-2
overflow_mul-step-2 c = omega (arith, mul-le-mul_right c.args.n c.requires.3)

pub loop-i-init : goal.loop-i-init
loop-i-init c = (omega arith, omega arith, omega arith, side_none _ _ _ _ _ _, refl)
