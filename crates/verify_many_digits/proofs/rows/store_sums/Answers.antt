use mathlib.Core.Path.{◌≡◌, refl, ap, ap₂, subst, ◌∙◌}
use mathlib.Core.Bool.{false}
use Prim.Native.Nat.{◌+◌}
use native.Mathlib.Omega.{arith}
use lib.ListN.{length, get_or}
use Rattle.ring_rq_matrix.proofs.Place.{rows-within}
use Rattle.verify_many_digits.specs.Sums.{sum_at}
use Rattle.verify_many_digits.specs.Rows.{sum_for, stored_sums, SumsLong}
use Rattle.verify_many_digits.proofs.RowLaws.{sums_none, sums_next, length-sums, sums_long-next}
use Rattle.verify_many_digits.proofs.rows.store_sums.Goals as goal

pub loop-m-init : goal.loop-m-init
loop-m-init c =
    let s = c.args in
    (omega arith, omega arith, sums_none s.sums (λ i. get_or s.passes i false) s.at s.need s.scratch.now, refl, λ i h. absurd (omega arith))

pub store_sum-requires : goal.store_sum-requires
store_sum-requires c =
    let l = c.loop-m in
    omega (arith, c.requires, l.invariant.1, l.invariant.3, rows-within l.m c.args.count c.args.need (omega arith))

pub overflow_add-place : goal.overflow_add-place
overflow_add-place c =
    let l = c.loop-m in
    omega (arith, c.requires, l.invariant.1, rows-within l.m c.args.count c.args.need (omega arith))

pub loop-m-preserved : goal.loop-m-preserved
loop-m-preserved c =
    let s = c.args in
    let l = c.loop-m in
    let e = c.store_sum.ensures in
    let stored = e.0
    ∙ ap₂ (λ p x. sum_for (sum_at s.sums l.m) (get_or s.passes l.m false) p x) l.invariant.1 l.invariant.2
    ∙ sums_next s.sums (λ i. get_or s.passes i false) s.at s.need s.scratch.now l.m in (
      omega arith,
      omega (arith, l.invariant.1),
      stored,
      ap length stored ∙ length-sums s.sums (λ i. get_or s.passes i false) s.at s.need s.scratch.now (l.m + 1),
      sums_long-next
          s.sums l.m e.1 l.invariant.4,
    )

pub returns : goal.returns
returns c =
    let s = c.args in
    let l = c.loop-m in
    let n : l.m ≡ s.count = omega arith in
    (l.invariant.2 ∙ ap (λ k. stored_sums s.sums (λ i. get_or s.passes i false) s.at s.need k s.scratch.now) n, subst (SumsLong s.sums) n l.invariant.4)

pub offset_bounds-sums-m : goal.offset_bounds-sums-m
offset_bounds-sums-m c = omega (arith, c.requires.0)

pub bounds-sums-m : goal.bounds-sums-m
bounds-sums-m c = omega (arith, c.requires.0)

pub bounds-passes-m : goal.bounds-passes-m
bounds-passes-m c = omega (arith, c.requires.0)

pub shape_of-scratch : goal.shape_of-scratch
shape_of-scratch c = c.loop-m.invariant.3
