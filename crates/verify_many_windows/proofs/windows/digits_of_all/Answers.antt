use mathlib.Core.Path.{refl, sym, ap, subst, ◌∙◌}
use Prim.Native.Nat.{◌+◌, ◌*◌, ◌≤◌}
use native.Mathlib.Omega.{arith}
use lib.ListN.{length}
use Rattle.spec_protocol.specs.Parameters.{parameters}
use Rattle.spec_protocol.specs.Many.{many_need}
use Rattle.relation_env_params.specs.Parameters.{parameters_of}
use Rattle.core_workspace.proofs.Unchanged.{unchanged_refl}
use Rattle.verify_many_windows.specs.Digits.{Fitting}
use Rattle.verify_many_windows.proofs.WindowLaws.{rowable_sized, part_received, need_is, need_large, window-within}
use Rattle.verify_many_windows.proofs.WindowDigits.{begun_none, begun_next}
use Rattle.verify_many_windows.proofs.windows.digits_of_all.Goals.{In-loop-m}
use Rattle.verify_many_windows.proofs.windows.digits_of_all.Goals as goal

-- window m lies within the scratch
bounds : (c : In-loop-m)
    → let s = c.args in
    (4096 ≤ c.scratch_length-need.result)
    × (c.loop-m.m * c.scratch_length-need.result + c.scratch_length-need.result ≤ length s.scratch.now) × (s.count ≤ 8)
bounds c =
    let n = c.scratch_length-need in
    (need_large _ _ _ _ _ _ c.requires.rowable.0 _ n.ensures, window-within _ _ _ _ _ _ c.requires.rowable.0 _ n.ensures _ c.loop-m-test.true, c.requires.rowable.0.few)

pub loop-m-init : goal.loop-m-init
loop-m-init c =
    (omega arith, omega arith, begun_none _ _ _ _ _ c.args.scratch.now c.requires.all_rows_done, unchanged_refl _ _)

pub digits_of_one-requires : goal.digits_of_one-requires
digits_of_one-requires c =
    let l = c.loop-m in
    let b = bounds (goal.at.digits_of_one-requires c).In-loop-m in record {
      m_lt_count = (c.loop-m-test.true, b.2, omega (arith, b, l.invariant.1, l.invariant.3.size, c.scratch_length-need.ensures, c.requires.rowable.1));
      received = λ t. part_received _ _
          _ _ _ _ c.requires.rowable.0 _ c.loop-m-test.true t;
    }

pub loop-m-preserved : goal.loop-m-preserved
loop-m-preserved c =
    let l = c.loop-m in
    let n = c.scratch_length-need in
    let h = c.loop-m-test.true in
    let at = l.invariant.1 ∙ ap (λ k. l.m * k) (need_is _ _ _ _ _ _ c.requires.rowable.0 _ n.ensures) in
    let fitting = subst Fitting c.requires.rowable.0.same c.requires.rowable.1 in
    let room = subst (λ k. many_need (parameters c.args.job.now) c.args.count ≤ k) (sym l.invariant.3.size) c.requires.rowable.0.room in
    let next =
    begun_next c.args.job.now c.args.transcripts.now c.args.count _ _ fitting c.args.scratch.now l.scratch _ l.m l.start room h at
    (parameters_of c.args.params) c.requires.rowable.0.same _ refl c.digits_of_one.ensures (l.invariant.2, l.invariant.3) in
    (omega arith, omega (arith, l.invariant.1), next.0, next.1)

pub returns : goal.returns
returns c =
    let l = c.loop-m in
    let b = l.invariant.2 in
    record { all_rows_done_2 = b.done; all_digits = λ i h t. b.digits i (omega arith) h t; unchanged = l.invariant.3 }

pub scratch_length-need-requires : goal.scratch_length-need-requires
scratch_length-need-requires c = rowable_sized _ _ _ _ _ _ c.requires.rowable.0

pub bounds-passes-m : goal.bounds-passes-m
bounds-passes-m c = omega (arith, bounds (goal.at.bounds-passes-m c).In-loop-m)

pub overflow_add-start : goal.overflow_add-start
overflow_add-start c = omega (arith, bounds (goal.at.overflow_add-start c).In-loop-m, c.loop-m.invariant.1)

pub shape_of-scratch : goal.shape_of-scratch
shape_of-scratch c = c.loop-m.invariant.3.size
