-- `judge_window` meets its contract.
use mathlib.Core.Path.{◌≡◌, sym, ap, subst, ◌∙◌}
use Prim.Native.Nat.{◌+◌, ◌*◌, ◌≤◌}
use native.Mathlib.Omega.{arith}
use lib.ListN.{length}
use Rattle.spec_protocol.specs.Parameters.{parameters}
use Rattle.spec_protocol.specs.Layout.{scratch_need}
use Rattle.spec_protocol.specs.Many.{RowsDone, row_count}
use Rattle.admission_slices.specs.Admission.{Verifiable}
use Rattle.verifier.proofs.Whole.{call_sized}
use Rattle.verify_many.proofs.Windows.{inside, lent-window, lent_length, unchanged_window}
use Rattle.verify_many.proofs.verdicts.part.judge_window.Goals.{After-scratch_length-need}
use Rattle.verify_many.proofs.verdicts.part.judge_window.Goals as goal

-- the length of a window
need_is : (c : After-scratch_length-need) → c.scratch_length-need.result ≡ scratch_need (parameters c.args.job.now)
need_is c = c.scratch_length-need.ensures ∙ ap scratch_need c.requires.verifiable.handed.same

-- it ends within the scratch
within : (c : After-scratch_length-need) → c.args.m * c.scratch_length-need.result + c.scratch_length-need.result ≤ length c.args.scratch.now
within c =
    inside c.args.scratch.now c.args.m (scratch_need (parameters c.args.job.now)) c.scratch_length-need.result (need_is c) c.requires.m_bound.1

pub scratch_length-need-requires : goal.scratch_length-need-requires
scratch_length-need-requires c = call_sized _ _ _ _ _ c.requires.verifiable

pub judge-requires : goal.judge-requires
judge-requires c =
    let k = (goal.at.judge-requires c).After-scratch_length-need in
    let need = scratch_need (parameters c.args.job.now) in
    let l = lent_length c.args.scratch.now c.args.m need c.scratch_length-need.result (need_is k) c.requires.m_bound.1 in
    let w = lent-window c.args.scratch.now c.args.m need c.scratch_length-need.result (need_is k) c.requires.m_bound.1 in record {
      verifiable = subst (λ n. Verifiable c.args.job.now c.args.randomness.now c.args.transcript.now n c.args.params) (sym l) c.requires.verifiable;
      window_len = l;
      rows_done = subst (λ w. RowsDone c.args.job.now c.args.transcript.now w (row_count (parameters c.args.job.now))) (sym w) c.requires.rows_done;
    }

pub returns : goal.returns
returns c =
    let k = (goal.at.returns c).After-scratch_length-need in
    let e = c.judge.ensures in record {
      result_value = e.result_value;
      unchanged = unchanged_window c.args.scratch.now c.args.m (scratch_need (parameters c.args.job.now)) c.scratch_length-need.result (need_is k) c.requires.m_bound.1
          c.judge.new.window e.window_len_unchanged;
    }

pub overflow_mul-from : goal.overflow_mul-from
overflow_mul-from c = omega (arith, within (goal.at.overflow_mul-from c).After-scratch_length-need)

pub overflow_add-to : goal.overflow_add-to
overflow_add-to c = omega (arith, within (goal.at.overflow_add-to c).After-scratch_length-need)

pub offset_bounds-scratch-from : goal.offset_bounds-scratch-from
offset_bounds-scratch-from c = omega (arith, within (goal.at.offset_bounds-scratch-from c).After-scratch_length-need)

pub slice_bounds-judge-end : goal.slice_bounds-judge-end
slice_bounds-judge-end c = within (goal.at.slice_bounds-judge-end c).After-scratch_length-need
