use mathlib.Core.Path.{refl, sym, ap, subst, ◌∙◌}
use mathlib.Core.Bool.{false}
use Prim.Native.Nat.{◌+◌, ◌*◌, ◌≤◌}
use native.Mathlib.Omega.{arith}
use lib.ListN.{length, get_or}
use Rattle.spec_protocol.specs.Parameters.{parameters}
use Rattle.spec_protocol.specs.Many.{many_need, transcript_part}
use Rattle.core_workspace.proofs.Unchanged.{unchanged_refl}
use Rattle.ntt_vectors.proofs.Stored.{ntt_words-stored}
use Rattle.verify_many_windows.specs.Digits.{digit_count}
use Rattle.verify_many_windows.proofs.WindowLaws.{rowable_sized, part_received, need_is, need_large, window-within}
use Rattle.verify_many_digits.specs.NttDigits.{NttFitting, ntt_digits_for}
use Rattle.verify_many_digits.proofs.CellLaws.{digits-small}
use Rattle.verify_many_digits.proofs.FormLaws.{begun_none, begun_next}
use Rattle.verify_many_digits.proofs.forms.all_to_ntt_form.Goals.{In-loop-m}
use Rattle.verify_many_digits.proofs.forms.all_to_ntt_form.Invariants.{digits_of-part}
use Rattle.verify_many_digits.proofs.forms.all_to_ntt_form.Goals as goal

-- window m lies within the scratch
bounds : (c : In-loop-m)
    → let s = c.args in
    (4096 ≤ c.scratch_length-need.result)
    × (c.loop-m.m * c.scratch_length-need.result + c.scratch_length-need.result ≤ length s.scratch.now) × (s.count ≤ 8)
bounds c =
    let n = c.scratch_length-need in
    (need_large _ _ _ _ _ _ c.requires.rowable.0 _ n.ensures, window-within _ _ _ _ _ _ c.requires.rowable.0 _ n.ensures _ c.loop-m-test.true, c.requires.rowable.0.few)

pub loop-m-init : goal.loop-m-init
loop-m-init c =
    (omega arith, omega arith, begun_none _ _ _ _ _ _ _ _ c.args.scratch.now c.requires.all_rows_done, unchanged_refl _ _)

pub one_to_ntt_form-requires : goal.one_to_ntt_form-requires
one_to_ntt_form-requires c =
    let l = c.loop-m in
    let b = bounds (goal.at.one_to_ntt_form-requires c).In-loop-m in record {
      in_range = (
        c.loop-m-test.true,
        b.2,
        omega (arith, b, c.requires.rowable.1, l.invariant.1, l.invariant.3.size, c.scratch_length-need.ensures),
      );
      received = λ t. part_received _ _ _ _ _ _ c.requires.rowable.0 _
          c.loop-m-test.true t;
    }

pub loop-m-preserved : goal.loop-m-preserved
loop-m-preserved c =
    let l = c.loop-m in
    let J = c.args.job.now in
    let n = c.scratch_length-need in
    let h = c.loop-m-test.true in
    let need-same = need_is _ _ _ _ _ _ c.requires.rowable.0 _ n.ensures in
    let at = l.invariant.1 ∙ ap (λ k. l.m * k) need-same in
    let room = subst (λ k. many_need (parameters J) c.args.count ≤ k) (sym l.invariant.3.size) c.requires.rowable.0.room in
    let fits = subst NttFitting c.requires.rowable.0.same c.requires.rowable.1 in
    let e = c.one_to_ntt_form.ensures
    ∙ ap (λ P. ntt_digits_for P c.args.transcripts.now c.args.count l.m l.start (get_or c.args.passes l.m false) l.scratch) c.requires.rowable.0.same in
    let next =
    begun_next J c.args.transcripts.now c.args.count _ (parameters J).κ (digits_of-part J c.args.transcripts.now c.args.count) 0 (digit_count (parameters J)) fits
    c.args.scratch.now l.scratch _ l.m l.start room h at _ refl e
    (λ t. ntt_words-stored (digits_of-part J c.args.transcripts.now c.args.count l.m) 0 l.scratch _ l.start (digit_count (parameters J))
    (e ∙ ap (λ p. ntt_digits_for (parameters J) c.args.transcripts.now c.args.count l.m l.start p l.scratch) t)
    (omega (arith, bounds (goal.at.loop-m-preserved c).In-loop-m, fits, l.invariant.1, l.invariant.3.size, need-same))
    (digits-small (parameters J) (transcript_part (parameters J) c.args.count c.args.transcripts.now l.m))) (l.invariant.2, l.invariant.3) in
    (omega arith, omega (arith, l.invariant.1), next.0, next.1)

pub returns : goal.returns
returns c =
    let l = c.loop-m in
    let b = l.invariant.2 in
    record { all_rows_done_2 = b.done; all_ntt_digits = λ i h t. b.forms i (omega arith) h t; unchanged = l.invariant.3 }

pub scratch_length-need-requires : goal.scratch_length-need-requires
scratch_length-need-requires c = rowable_sized _ _ _ _ _ _ c.requires.rowable.0

pub bounds-passes-m : goal.bounds-passes-m
bounds-passes-m c = omega (arith, bounds (goal.at.bounds-passes-m c).In-loop-m)

pub overflow_add-start : goal.overflow_add-start
overflow_add-start c = omega (arith, bounds (goal.at.overflow_add-start c).In-loop-m, c.loop-m.invariant.1)

pub shape_of-scratch : goal.shape_of-scratch
shape_of-scratch c = c.loop-m.invariant.3.size
