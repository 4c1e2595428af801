use mathlib.Core.Path.{◌≡◌, refl, ◌∙◌, ap}
use mathlib.Core.List.{List}
use Prim.Native.Nat.{ℕ, ◌+◌, ◌-◌, ◌*◌, ◌≤◌}
use native.Mathlib.Nat.{mul-le-mul_right}
use native.Mathlib.Omega.{arith}
use lib.ListN.{length}
use Rattle.math.specs.lists.Table.{cat}
use Rattle.math.specs.lists.Part.{splice}
use Rattle.math.proofs.lists.Splice.{length-splice}
use Rattle.spec_leaves.specs.Rq.{Element}
use Rattle.spec_protocol.specs.Formulas.{flat}
use Rattle.spec_protocol.proofs.Flat.{length-rows}
use Rattle.spec_protocol.proofs.Stored.{lists-none}
use Rattle.core_aggregate.specs.Omega.{omega_rows}
use Rattle.core_aggregate.proofs.Rows.{lists_over, omega_rows-from}
use Rattle.core_aggregate.proofs.omega.omega_all.Invariants.{taken}
use Rattle.core_aggregate.proofs.omega.omega_all.Goals as goal

-- four k from the first on end where all do, or before
four_within : (first aggregations width : ℕ) → first + 4 ≤ aggregations → first * width + 4 * width ≤ aggregations * width
four_within first aggregations width h = omega (arith, mul-le-mul_right width h)

pub omega_ones-requires : goal.omega_ones-requires
omega_ones-requires c = c.requires

pub returns-then-aggregations-lt4 : goal.returns-then-aggregations-lt4
returns-then-aggregations-lt4 c = c.omega_ones.ensures

pub overflow_mul-width : goal.overflow_mul-width
overflow_mul-width c = omega (arith, mul-le-mul_right c.args.n c.requires.3)

pub loop-g-init : goal.loop-g-init
loop-g-init c =
    let s = c.args in
    let f : ℕ → List Element = omega_rows s.randomness.now s.pi_at s.omega_at s.r s.n in
    let none : 0 ≡ taken s.aggregations 0 = omega arith in
    (lists-none s.out.now s.to f ∙ ap (λ j. splice s.out.now s.to (flat (cat j f))) none, refl)

pub omega_parts_of_four-requires : goal.omega_parts_of_four-requires
omega_parts_of_four-requires c =
    let s = c.args in
    let h = c.requires in
    let four : c.min-first.result + 4 ≤ s.aggregations = omega (arith, c.min-first.ensures) in
    (h.0, omega (arith, h.1), omega (arith, h.2, c.loop-g.invariant.1, four_within c.min-first.result s.aggregations (s.r * s.n) four), h.3, h.4)

pub overflow_mul-place : goal.overflow_mul-place
overflow_mul-place c =
    let s = c.args in
    let four : c.min-first.result + 4 ≤ s.aggregations = omega (arith, c.min-first.ensures) in
    omega (arith, c.requires.2, four_within c.min-first.result s.aggregations (s.r * s.n) four)

pub overflow_mul-place-in-loop-g : goal.overflow_mul-place-in-loop-g
overflow_mul-place-in-loop-g c =
    let s = c.args in
    let four : c.min-first.result + 4 ≤ s.aggregations = omega (arith, c.min-first.ensures) in
    omega (arith, c.requires.2, four_within c.min-first.result s.aggregations (s.r * s.n) four)

pub overflow_add-place : goal.overflow_add-place
overflow_add-place c =
    let s = c.args in
    let four : c.min-first.result + 4 ≤ s.aggregations = omega (arith, c.min-first.ensures) in
    omega (arith, c.requires.2, four_within c.min-first.result s.aggregations (s.r * s.n) four)

pub loop-g-preserved : goal.loop-g-preserved
loop-g-preserved c =
    let s = c.args in
    let l = c.loop-g in
    let m = c.min-first.result in
    let k : ℕ = 4 * l.g - m in
    let f : ℕ → List Element = omega_rows s.randomness.now s.pi_at s.omega_at s.r s.n in
    let made : taken s.aggregations l.g ≡ m + k = omega (arith, c.min-first.ensures) in
    let four : m + 4 ≤ s.aggregations = omega (arith, c.min-first.ensures) in
    let next : m + 4 ≡ taken s.aggregations (l.g + 1) = omega (arith, c.min-first.ensures) in
    let w = c.omega_parts_of_four.ensures
    ∙ lists_over s.out.now l.out s.to m k 4 (s.r * s.n) f (omega_rows s.randomness.now s.pi_at (s.omega_at + m * 256) s.r s.n)
    (l.invariant.0 ∙ ap (λ j. splice s.out.now s.to (flat (cat j f))) made)
    (λ j. length-rows s.r _ s.n)
    (λ q. omega_rows-from s.randomness.now s.pi_at s.omega_at (s.omega_at + m * 256) s.r s.n m q refl)
    (omega (arith, c.min-first.ensures))
    (omega (arith, c.requires.2, four_within m s.aggregations (s.r * s.n) four))
    ∙ ap (λ j. splice s.out.now s.to (flat (cat j f))) next in
    (w, ap length w ∙ length-splice _ _ _)

pub returns : goal.returns
returns c =
    let s = c.args in
    let all : taken s.aggregations c.loop-g.g ≡ s.aggregations = omega arith in
    c.loop-g.invariant.0 ∙ ap (λ j. splice s.out.now s.to (flat (cat j (omega_rows s.randomness.now s.pi_at s.omega_at s.r s.n)))) all
