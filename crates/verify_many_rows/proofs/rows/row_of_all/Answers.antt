use mathlib.Core.Path.{refl, sym, ap, subst, ◌∙◌}
use Prim.Native.Nat.{◌+◌, ◌*◌, ◌≤◌, ◌<◌}
use native.Mathlib.Omega.{arith}
use lib.ListN.{length}
use mir.Syntax.{w64}
use mir.Val.{Fits}
use Rattle.std.specs.Option.{is_some}
use Rattle.spec_protocol.specs.Parameters.{parameters}
use Rattle.spec_protocol.specs.Many.{many_need, transcript_part}
use Rattle.core_workspace.specs.Holds.{Holds}
use Rattle.core_workspace.proofs.Unchanged.{unchanged_refl}
use Rattle.verify_many_windows.specs.Digits.{Places, window_digits}
use Rattle.verify_many_windows.proofs.WindowLaws.{rowable_sized, posed, few-rows, need_is, need_large, window-within, place_is}
use Rattle.verify_many_windows.proofs.WindowDigits.{held_all}
use Rattle.verify_many_windows.proofs.Progress.{progress_none, progress_all, progress_next}
use Rattle.verify_many_rows.proofs.Windows.{digits_stay}
use Rattle.verify_many_rows.proofs.rows.row_of_all.Goals.{In-loop-m}
use Rattle.verify_many_rows.proofs.rows.row_of_all.Goals as goal

-- window m lies within the scratch, and the row is one of few
bounds : (c : In-loop-m)
    → let s = c.args in
    (4096 ≤ c.scratch_length-need.result)
    × (c.loop-m.m * c.scratch_length-need.result + c.scratch_length-need.result ≤ length s.scratch.now) × (s.row < 64) × (s.count ≤ 8)
bounds c =
    let n = c.scratch_length-need in (
      need_large _ _ _ _ _ _ c.requires.rowable.0 _ n.ensures,
      window-within _ _ _ _ _ _ c.requires.rowable.0 _ n.ensures _ c.loop-m-test.true,
      omega (arith, few-rows _ _ _ _ _ _ c.requires.rowable.0, c.requires.rowable.1),
      c.requires.rowable.0.few,
    )

-- the next window starts at a small place
small : (c : In-loop-m) → Fits w64 (c.loop-m.start + c.scratch_length-need.result)
small c = omega (arith, bounds c, c.loop-m.invariant.1)

pub loop-m-init : goal.loop-m-init
loop-m-init c =
    (omega arith, omega arith, progress_none _ _ _ _ _ c.args.scratch.now c.requires.all_rows_done, unchanged_refl _ _, c.requires.stored_digits)

pub row_of_one-requires : goal.row_of_one-requires
row_of_one-requires c =
    let i = (goal.at.row_of_one-requires c).In-loop-m in
    let l = c.loop-m in
    let h = c.loop-m-test.true in
    let b = bounds i in
    let n = c.scratch_length-need in
    let J = c.args.job.now in
    let X = transcript_part (parameters J) c.args.count c.args.transcripts.now l.m in
    let at = l.invariant.1 ∙ ap (λ k. l.m * k) (need_is _ _ _ _ _ _ c.requires.rowable.0 _ n.ensures) in
    record {
      m_lt_count = (h, b.3, c.requires.rowable.1, omega (arith, b, l.invariant.1, l.invariant.3.size));
      posed = λ t. posed _ _ _ _ _ _ c.requires.rowable.0 _ h t;
      all_held = λ t a e.
          let k = c.held_from-held.ensures in
          let u = sym k.told ∙ ap is_some e in
          let w = subst (λ P. Places P l.start a) c.requires.rowable.0.same (k.places a e) in
          held_all J X l.scratch l.start _ w (omega (arith, b, l.invariant.1, l.invariant.3.size, l.invariant.4.fitting u, need_is _ _ _ _ _ _ c.requires.rowable.0 _ n.ensures))
          (subst (λ a. Holds l.scratch a (window_digits (parameters J) X)) (sym at) (l.invariant.4.all u l.m h t));
    }

pub loop-m-preserved : goal.loop-m-preserved
loop-m-preserved c =
    let l = c.loop-m in
    let n = c.scratch_length-need in
    let h = c.loop-m-test.true in
    let b = bounds (goal.at.loop-m-preserved c).In-loop-m in
    let room = subst (λ k. many_need (parameters c.args.job.now) c.args.count ≤ k) (sym l.invariant.3.size) c.requires.rowable.0.room in
    let place = place_is _ _ _ _ _ _ c.requires.rowable.0 _ n.ensures l.m (l.start + n.result) c.args.row (ap (λ k. k + n.result) l.invariant.1) in
    let e = c.row_of_one.ensures in
    let next = progress_next c.args.job.now c.args.transcripts.now c.args.count _ c.args.row c.args.scratch.now l.scratch _ l.m _ b.2 room
    h place _ refl e (l.invariant.2, l.invariant.3) in (
      omega arith,
      omega (arith, l.invariant.1),
      next.0,
      next.1,
      digits_stay c.args.job.now c.args.transcripts.now c.args.count _ c.args.stored c.args.row
          l.scratch _ l.m _ b.2 place _ refl e l.invariant.4,
    )

pub returns : goal.returns
returns c =
    let l = c.loop-m in
    let s = c.args in
    record { all_rows_done_2 = progress_all s.job.now s.transcripts.now s.count _ s.row l.scratch l.m (omega arith) l.invariant.2; stored_digits_2 = l.invariant.4; unchanged = l.invariant.3 }

pub scratch_length-need-requires : goal.scratch_length-need-requires
scratch_length-need-requires c = rowable_sized _ _ _ _ _ _ c.requires.rowable.0

pub bounds-passes-m : goal.bounds-passes-m
bounds-passes-m c = omega (arith, bounds (goal.at.bounds-passes-m c).In-loop-m)

pub overflow_add-place : goal.overflow_add-place
overflow_add-place c = omega (arith, bounds (goal.at.overflow_add-place c).In-loop-m, c.loop-m.invariant.1)

pub overflow_sub-place : goal.overflow_sub-place
overflow_sub-place c = omega (arith, bounds (goal.at.overflow_sub-place c).In-loop-m, c.loop-m.invariant.1)

pub overflow_mul-place : goal.overflow_mul-place
overflow_mul-place c = omega (arith, bounds (goal.at.overflow_mul-place c).In-loop-m)

pub overflow_add-place-in-loop-m : goal.overflow_add-place-in-loop-m
overflow_add-place-in-loop-m c = omega (arith, bounds (goal.at.overflow_add-place-in-loop-m c).In-loop-m, c.loop-m.invariant.1)

pub held_from-held-requires : goal.held_from-held-requires
held_from-held-requires c = (rowable_sized _ _ _ _ _ _ c.requires.rowable.0, omega (arith, bounds (goal.at.held_from-held-requires c).In-loop-m, c.loop-m.invariant.1))

pub overflow_add-start : goal.overflow_add-start
overflow_add-start c = small (goal.at.overflow_add-start c).In-loop-m

pub shape_of-scratch : goal.shape_of-scratch
shape_of-scratch c = c.loop-m.invariant.3.size
