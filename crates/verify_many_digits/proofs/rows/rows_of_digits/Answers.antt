use mathlib.Core.Path.{◌≡◌, sym, ap, subst, ◌∙◌}
use mathlib.Core.Bool.{false}
use Prim.Native.Nat.{◌*◌, ◌≤◌}
use native.Mathlib.Omega.{arith}
use lib.ListN.{get_or}
use Rattle.spec_protocol.specs.Parameters.{Parameters, parameters}
use Rattle.spec_protocol.specs.Layout.{scratch_need}
use Rattle.spec_protocol.specs.Many.{many_need, row_count, transcript_part, AllRowsDone}
use Rattle.relation_env_params.specs.Parameters.{parameters_of}
use Rattle.core_workspace.proofs.Unchanged.{unchanged_refl, unchanged_trans}
use Rattle.ntt_vectors.proofs.Laws.{ntt_form-values}
use Rattle.verify_many_windows.specs.Rowable.{Rowable}
use Rattle.verify_many_windows.specs.Digits.{digit_count, window_digits}
use Rattle.verify_many_windows.proofs.WindowLaws.{few-rows}
use Rattle.verify_many_digits.specs.NttDigits.{NttFitting}
use Rattle.verify_many_digits.proofs.rows.rows_of_digits.Goals.{Start}
use Rattle.verify_many_digits.proofs.rows.rows_of_digits.Goals as goal

-- there are few rows
few : (s : Start) → row_count (parameters_of s.args.params) ≤ 64
few s = few-rows _ _ _ _ _ _ s.requires.rowable.0

pub loop-row-init : goal.loop-row-init
loop-row-init c =
    let e = c.all_to_ntt_form.ensures in
    let first : (parameters c.args.job.now).κ ≡ c.args.params.kappa = ap (λ (Q : Parameters). Q.κ) (sym c.requires.rowable.0.same) in
    let S = c.all_to_ntt_form.new.scratch in (
      omega arith,
      omega arith,
      e.all_ntt_digits,
      subst (λ ρ. AllRowsDone c.args.job.now c.args.count (λ m. get_or c.args.passes m false) c.args.transcripts.now S ρ) first e.all_rows_done_2,
      unchanged_refl _ _,
    )

pub row_of_all-requires : goal.row_of_all-requires
row_of_all-requires c =
    let l = c.loop-row in
    let P = parameters c.args.job.now in
    let r = c.requires.rowable.0 in record {
      valued = record {
        same = r.same;
        sound = r.sound;
        job = r.job;
        few = r.few;
        room = subst (λ n. many_need P c.args.count ≤ n) (sym (l.invariant.4.size
            ∙ c.all_to_ntt_form.ensures.unchanged.size)) r.room;
        fitting = subst NttFitting r.same c.requires.rowable.1;
        values = λ m h u.
            ntt_form-values l.scratch (m * scratch_need P) (window_digits P (transcript_part P c.args.count c.args.transcripts.now m)) 0 (digit_count P) (l.invariant.2 m h u);
      };
      kappa_le_row = (l.invariant.0, omega arith);
    }

pub loop-row-preserved : goal.loop-row-preserved
loop-row-preserved c =
    let l = c.loop-row in
    let e = c.row_of_all.ensures in
    let r = subst (λ n. Rowable c.args.job.now c.args.transcripts.now c.args.count (λ m. get_or c.args.passes m false) n c.args.params)
    (sym (l.invariant.4.size ∙ c.all_to_ntt_form.ensures.unchanged.size)) c.requires.rowable.0 in
    let made = e.row_made c.args.transcripts.now r l.invariant.2 l.invariant.3 in
    (omega (arith, l.invariant.0), omega arith, made.0, made.1, unchanged_trans _ _ l.scratch _ l.invariant.4 e.unchanged)

pub returns : goal.returns
returns c =
    let l = c.loop-row in
    let a = c.args in
    let done : l.row ≡ row_count (parameters_of a.params) = omega arith in record {
      all_rows_done_2 = subst (λ ρ. AllRowsDone a.job.now a.count (λ m. get_or a.passes m false) a.transcripts.now l.scratch ρ) (done
          ∙ ap row_count c.requires.rowable.0.same) l.invariant.3;
      unchanged = unchanged_trans _ _ _ _ c.all_to_ntt_form.ensures.unchanged l.invariant.4;
    }

pub all_to_ntt_form-requires : goal.all_to_ntt_form-requires
all_to_ntt_form-requires c = record { rowable = c.requires.rowable; all_rows_done = c.requires.all_rows_done }

pub overflow_add-last : goal.overflow_add-last
overflow_add-last c = omega (arith, few (goal.at.overflow_add-last c).Start)

pub overflow_add-last-2 : goal.overflow_add-last-2
overflow_add-last-2 c = omega (arith, few (goal.at.overflow_add-last-2 c).Start)

pub overflow_add-last-3 : goal.overflow_add-last-3
overflow_add-last-3 c = omega (arith, few (goal.at.overflow_add-last-3 c).Start)

pub shape_of-scratch : goal.shape_of-scratch
shape_of-scratch c = c.loop-row.invariant.4.size ∙ c.all_to_ntt_form.ensures.unchanged.size
