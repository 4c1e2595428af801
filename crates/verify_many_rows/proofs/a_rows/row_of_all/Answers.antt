use mathlib.Core.Path.{◌≡◌, refl, sym, ap, subst, ◌∙◌}
use mathlib.Core.Bool.{false}
use mathlib.Core.List.{[]}
use Prim.Native.Nat.{◌+◌, ◌*◌, ◌≤◌, ◌<◌}
use native.Mathlib.Nat.{mul-le-mul}
use native.Mathlib.Omega.{arith}
use lib.ListN.{length}
use mir.Syntax.{w64}
use mir.Val.{Fits}
use Rattle.spec_protocol.specs.Parameters.{Parameters, parameters}
use Rattle.spec_protocol.specs.Many.{many_need}
use Rattle.verifier_commitments.proofs.OuterLaws.{job_at}
use Rattle.ntt_vectors.specs.NttForm.{AllValues}
use Rattle.ntt_vectors.proofs.Laws.{ntt_form-values}
use Rattle.verify_many_windows.specs.Rowable.{Rowable}
use Rattle.verify_many_windows.proofs.WindowLaws.{rowable_sized, few-rows, need_is, need_large, window-within, place_is}
use Rattle.verify_many_rows.proofs.ARowLaws.{row-end, bare, making_none, making_all, making_next}
use Rattle.verify_many_rows.proofs.a_rows.row_of_all.Goals.{After-of_job, In-loop-m, Start}
use Rattle.verify_many_rows.proofs.a_rows.row_of_all.Goals as goal

-- what the row stands on
rowable : (s : Start) → Rowable s.args.job.now [] s.args.count (λ m. false) (length s.args.scratch.now) s.args.params
rowable s = bare _ _ _ _ _ _ s.requires.0

-- the row lies within the job, and its place is small
row_bounds : (c : After-of_job)
    → let s = c.args in
    (s.row * s.params.rank ≤ 1024) × (c.of_job.result + 64 * (s.row * s.params.rank) + 64 * s.params.rank ≤ length s.job.now) × (s.params.rank ≤ 64)
row_bounds c =
    let w = (rowable_sized _ _ _ _ _ _ (rowable c.before.before.before.before.before)).within in
    let few : c.args.row ≤ 16 = omega (arith, w.κ.1, c.requires.1) in
    (mul-le-mul few w.n.1, row-end c.args.job.now c.args.params _ _ c.requires.0.same c.requires.0.job c.of_job.ensures c.requires.1, w.n.1)

-- window m lies within the scratch, and the row is one of few
bounds : (c : In-loop-m)
    → let s = c.args in
    let n = c.scratch_length-need in
    (4096 ≤ n.result) × (c.loop-m.m * n.result + n.result ≤ length s.scratch.now) × (s.row < 64) × (s.count ≤ 8)
bounds c =
    let n = c.scratch_length-need in
    let r = rowable c.before.before.before.before.before.before.before.before.before.before in (
      need_large _ _ _ _ _ _ r _ n.ensures,
      window-within _ _ _ _ _ _ r _ n.ensures _ c.loop-m-test.true,
      omega (arith, few-rows _ _ _ _ _ _ r, c.requires.1),
      r.few,
    )

-- the next window starts at a small place
small : (c : In-loop-m) → Fits w64 (c.loop-m.start + c.scratch_length-need.result)
small c = omega (arith, bounds c, c.loop-m.invariant.1)

pub to_ntt_form-requires : goal.to_ntt_form-requires
to_ntt_form-requires c =
    let b = row_bounds (goal.at.to_ntt_form-requires c).After-of_job in
    (omega (arith, b.1), omega (arith, b.2))

pub loop-m-init : goal.loop-m-init
loop-m-init c =
    (omega arith, omega arith, making_none _ _ _ _ _ c.requires.0.values)

pub store_product-requires : goal.store_product-requires
store_product-requires c =
    let i = (goal.at.store_product-requires c).In-loop-m in
    let s = (goal.at.store_product-requires c).Start in
    let l = c.loop-m in
    let b = bounds i in
    let n = c.scratch_length-need in
    let J = c.args.job.now in
    let at = l.invariant.1 ∙ ap (λ k. l.m * k) (need_is _ _ _ _ _ _ (rowable s) _ n.ensures) in
    let width : c.args.params.rank ≡ (parameters J).n = ap (λ (Q : Parameters). Q.n) c.requires.0.same in record {
      values = (
        ntt_form-values _ 0 _ _ c.args.params.rank c.to_ntt_form.ensures.ntt_form,
        (row_bounds (goal.at.store_product-requires c).After-of_job).2,
        omega (arith, b, l.invariant.1, l.invariant.2.unchanged.size),
      );
      all_values = λ t. subst (λ k. AllValues l.scratch l.start k) (sym width) (subst (λ a. AllValues l.scratch a (parameters J).n) (sym at) (l.invariant.2.values l.m c.loop-m-test.true t));
    }

pub loop-m-preserved : goal.loop-m-preserved
loop-m-preserved c =
    let i = (goal.at.loop-m-preserved c).In-loop-m in
    let s = (goal.at.loop-m-preserved c).Start in
    let l = c.loop-m in
    let b = bounds i in
    let n = c.scratch_length-need in
    let o = c.of_job in
    let J = c.args.job.now in
    let same = c.requires.0.same in
    let width : c.args.params.rank ≡ (parameters J).n = ap (λ (Q : Parameters). Q.n) same in
    let at = l.invariant.1 ∙ ap (λ k. l.m * k) (need_is _ _ _ _ _ _ (rowable s) _ n.ensures) in
    let room = subst (λ k. many_need (parameters J) c.args.count ≤ k) (sym l.invariant.2.unchanged.size) c.requires.0.room in
    let place = place_is _ _ _ _ _ _ (rowable s) _ n.ensures l.m (l.start + n.result) c.args.row (ap (λ k. k + n.result) l.invariant.1) in
    let row_is = ap (λ a. a + 64 * (c.args.row * c.args.params.rank)) o.ensures ∙ ap (λ (Q : Parameters). job_at Q 6 + 64 * (c.args.row * Q.n)) same in (
      omega arith,
      omega (arith, l.invariant.1),
      making_next J c.args.count _ c.args.row c.args.scratch.now l.scratch _ _ l.m l.start _ _ c.requires.0.sound.within b.2 room c.loop-m-test.true
          at place row_is (subst (λ (Q : Parameters). c.args.row < Q.κ) same c.requires.1) _ width c.to_ntt_form.ensures.ntt_form _ refl
          c.store_product.ensures l.invariant.2,
    )

pub returns : goal.returns
returns c =
    let l = c.loop-m in
    let s = c.args in
    record { row_made = making_all s.job.now s.count _ s.row s.scratch.now l.scratch l.m (omega arith) l.invariant.2; unchanged = l.invariant.2.unchanged }

pub scratch_length-need-requires : goal.scratch_length-need-requires
scratch_length-need-requires c = rowable_sized _ _ _ _ _ _ (rowable (goal.at.scratch_length-need-requires c).Start)

pub of_job-requires : goal.of_job-requires
of_job-requires c = (rowable_sized _ _ _ _ _ _ (rowable (goal.at.of_job-requires c).Start), omega arith)

pub overflow_mul-row_at : goal.overflow_mul-row_at
overflow_mul-row_at c = omega (arith, (row_bounds (goal.at.overflow_mul-row_at c).After-of_job).0)

pub overflow_mul-row_at-2 : goal.overflow_mul-row_at-2
overflow_mul-row_at-2 c = omega (arith, (row_bounds (goal.at.overflow_mul-row_at-2 c).After-of_job).0)

pub overflow_add-row_at : goal.overflow_add-row_at
overflow_add-row_at c = omega (arith, (row_bounds (goal.at.overflow_add-row_at c).After-of_job).1)

pub bounds-passes-m : goal.bounds-passes-m
bounds-passes-m c = omega (arith, bounds (goal.at.bounds-passes-m c).In-loop-m)

pub overflow_add-place : goal.overflow_add-place
overflow_add-place c = omega (arith, bounds (goal.at.overflow_add-place c).In-loop-m, c.loop-m.invariant.1)

pub overflow_sub-place : goal.overflow_sub-place
overflow_sub-place c = omega (arith, bounds (goal.at.overflow_sub-place c).In-loop-m, c.loop-m.invariant.1)

pub overflow_mul-place : goal.overflow_mul-place
overflow_mul-place c = omega (arith, bounds (goal.at.overflow_mul-place c).In-loop-m)

pub overflow_add-place-in-loop-m : goal.overflow_add-place-in-loop-m
overflow_add-place-in-loop-m c = omega (arith, bounds (goal.at.overflow_add-place-in-loop-m c).In-loop-m, c.loop-m.invariant.1)

pub overflow_add-start : goal.overflow_add-start
overflow_add-start c = small (goal.at.overflow_add-start c).In-loop-m

pub shape_of-scratch : goal.shape_of-scratch
shape_of-scratch c = c.loop-m.invariant.2.unchanged.size
