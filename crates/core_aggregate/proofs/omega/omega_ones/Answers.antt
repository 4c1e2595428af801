use mathlib.Core.Path.{refl, ◌∙◌, ap, ap₂}
use Prim.Native.Nat.{◌+◌, ◌*◌, ◌<◌}
use native.Mathlib.Nat.{mul-le-mul_right}
use native.Mathlib.Omega.{arith}
use lib.ListN.{length}
use Rattle.math.specs.lists.Part.{splice}
use Rattle.math.proofs.lists.Splice.{length-splice}
use Rattle.core_jl_transpose.specs.Omega.{omega_element}
use Rattle.spec_protocol.specs.Formulas.{flat, rows}
use Rattle.spec_protocol.proofs.Flat.{length-rows}
use Rattle.spec_protocol.proofs.Stored.{lists-none, lists-next, lists-all}
use Rattle.spec_protocol.proofs.Region.{length-lists}
use Rattle.core_aggregate.specs.Omega.{omega_rows}
use Rattle.core_aggregate.proofs.Rows.{row_within, row_next}
use Rattle.core_aggregate.proofs.omega.omega_ones.Goals as goal

pub omega_parts-requires : goal.omega_parts-requires
omega_parts-requires c =
    let s = c.args in
    let h = c.requires in
    let l = c.loop-k in
    let more : l.k < s.aggregations = omega arith in
    (h.0, omega (arith, h.1, more), omega (arith, row_within s.to l.k s.aggregations (s.r * s.n) (length s.out.now) more h.2), h.3, h.4)

pub overflow_add-weights : goal.overflow_add-weights
overflow_add-weights c =
    let more : c.loop-k.k < c.args.aggregations = omega arith in
    omega (arith, c.requires.1, more)

pub overflow_add-place : goal.overflow_add-place
overflow_add-place c =
    let s = c.args in
    let l = c.loop-k in
    let more : l.k < s.aggregations = omega arith in
    omega (arith, row_within s.to l.k s.aggregations (s.r * s.n) (length s.out.now) more c.requires.2)

pub loop-k-preserved : goal.loop-k-preserved
loop-k-preserved c =
    let s = c.args in
    let l = c.loop-k in
    let w = c.omega_parts.ensures
    ∙ ap₂ (λ place weights. splice l.out place (flat (rows s.r s.n (λ i. omega_element s.randomness.now (s.pi_at + i * 256 * (64 * s.n)) weights s.n)))) l.invariant.2 l.invariant.1
    ∙ lists-next s.out.now l.out s.to l.k (l.k * (s.r * s.n)) (omega_rows s.randomness.now s.pi_at s.omega_at s.r s.n) l.invariant.3
    (length-lists l.k (s.r * s.n) _ (λ k. length-rows s.r _ s.n)) in
    (omega arith, omega arith, row_next s.to l.k (s.r * s.n) l.place l.invariant.2, w, ap length w ∙ length-splice _ _ _)

pub overflow_mul-width : goal.overflow_mul-width
overflow_mul-width c = omega (arith, mul-le-mul_right c.args.n c.requires.3)

pub loop-k-init : goal.loop-k-init
loop-k-init c = (omega arith, omega arith, omega arith, lists-none _ _ _, refl)

pub overflow_mul-place : goal.overflow_mul-place
overflow_mul-place c = omega (arith, mul-le-mul_right c.args.n c.requires.3)

pub returns : goal.returns
returns c = lists-all _ _ _ _ _ _ c.loop-k.invariant.3 (omega arith)
