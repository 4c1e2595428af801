-- `mistyped` meets its contract.
use mathlib.Core.Path.{◌≡◌, ap, ◌∙◌}
use Prim.Native.Nat.{◌*◌}
use native.Mathlib.Omega.{arith}
use lib.ListN.{length}
use Rattle.spec_leaves.specs.Answer.{fine, refused}
use Rattle.spec_protocol.specs.Parameters.{parameters}
use Rattle.spec_protocol.specs.Verifier.{verify_refusal}
use Rattle.spec_protocol.specs.Mistyped.{list_need}
use Rattle.admission_slices.specs.Admission.{Verifiable}
use Rattle.mistyped.specs.Told.{mistyped_answer}
use Rattle.mistyped.proofs.Verdicts.{numbered}
use Rattle.mistyped.proofs.Whole.{first_refusal, short_list, long_list, refused_call, refused-scratch, worked_call, worked-scratch}
use Rattle.mistyped.proofs.call.mistyped.Goals.{After-struct_known-1}
use Rattle.mistyped.proofs.call.mistyped.Goals as goal

-- a call that the verifier would not refuse before its work
module _ (c : After-struct_known-1) where
  fit : let s = c.args in Verifiable s.job.now s.randomness.now s.transcript.now
      (length s.scratch.now) c.in-Ok.params
  fit = c.in-Ok.ensures.at

  unrefused : let s = c.args in fine ≡ verify_refusal s.job.now s.randomness.now
      s.transcript.now (length s.scratch.now)
  unrefused = c.in-Ok.ensures.result_value

  -- the length that the list needs
  need_is : 2 * c.in-Ok.params.constraint_l ≡ list_need (parameters c.args.job.now)
  need_is = ap (λ P. 2 * P.l) fit.handed.same

pub returns-then-list-need : goal.returns-then-list-need
returns-then-list-need c =
    let k = (goal.at.returns-then-list-need c).After-struct_known-1 in
    let s = c.args in
    let e = short_list s.job.now s.randomness.now s.transcript.now s.scratch.now s.list.now (unrefused k) (omega (arith, c.if-list-need.true, need_is k)) in
    record {
      told = refused_call s.job.now s.randomness.now s.transcript.now s.scratch.now s.list.now e _ (c.refused.ensures ∙ ap (λ n. mistyped_answer (refused 2 n) 0) (need_is k));
      scratch_left = refused-scratch s.job.now s.randomness.now s.transcript.now s.scratch.now s.list.now e;
    }

pub work-requires : goal.work-requires
work-requires c =
    let k = (goal.at.work-requires c).After-struct_known-1 in (fit k, c.if-list-need.false)

pub returns-in-Err : goal.returns-in-Err
returns-in-Err c =
    let s = c.args in
    let n = numbered c.in-Err.refusal in
    let g = c.in-Err.ensures.result_value in
    let f = first_refusal s.job.now s.randomness.now s.transcript.now s.scratch.now s.list.now c.in-Err.refusal g in
    record {
      told = refused_call s.job.now s.randomness.now s.transcript.now s.scratch.now s.list.now (f ∙ n.is) _ (c.from.ensures ∙ ap (λ a. mistyped_answer a 0) n.is);
      scratch_left = refused-scratch s.job.now s.randomness.now s.transcript.now s.scratch.now s.list.now (f ∙ n.is);
    }

pub returns-else-list-need : goal.returns-else-list-need
returns-else-list-need c =
    let k = (goal.at.returns-else-list-need c).After-struct_known-1 in
    let s = c.args in
    let w = c.work.ensures in
    let long = c.if-list-need.false in
    let e = long_list s.job.now s.randomness.now s.transcript.now s.scratch.now s.list.now (unrefused k) (omega (arith, long, need_is k)) in
    record {
      told = worked_call s.job.now s.randomness.now s.transcript.now s.scratch.now s.list.now e w.worked;
      scratch_left = worked-scratch s.job.now s.randomness.now s.transcript.now s.scratch.now s.list.now e w.scratch_after;
    }

pub overflow_mul-need : goal.overflow_mul-need
overflow_mul-need c = omega (arith, (fit (goal.at.overflow_mul-need c).After-struct_known-1).handed.sound.within.l.1, need_is (goal.at.overflow_mul-need c).After-struct_known-1)
