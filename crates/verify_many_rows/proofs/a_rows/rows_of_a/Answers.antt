use mathlib.Core.Path.{◌≡◌, sym, ap, subst, ◌∙◌}
use mathlib.Core.Bool.{false}
use Prim.Native.Nat.{◌*◌, ◌≤◌}
use native.Mathlib.Omega.{arith}
use lib.ListN.{get_or}
use Rattle.spec_protocol.specs.Parameters.{Parameters, parameters}
use Rattle.spec_protocol.specs.Layout.{scratch_need}
use Rattle.spec_protocol.specs.Many.{many_need, transcript_part, AllRowsDone}
use Rattle.core_workspace.proofs.Unchanged.{unchanged_refl, unchanged_trans}
use Rattle.ntt_vectors.proofs.Laws.{ntt_form-values}
use Rattle.verify_many_rows.specs.NttForm.{z_at}
use Rattle.verify_many_rows.proofs.a_rows.rows_of_a.Goals as goal

pub loop-row-init : goal.loop-row-init
loop-row-init c =
    let e = c.all_to_ntt_form.ensures in
    (omega arith, e.all_z, e.all_rows_done_2, unchanged_refl _ _)

pub row_of_all-requires : goal.row_of_all-requires
row_of_all-requires c =
    let l = c.loop-row in
    let J = c.args.job.now in
    let P = parameters J in (
      record {
        same = c.requires.rowable.same;
        sound = c.requires.rowable.sound;
        job = c.requires.rowable.job;
        few = c.requires.rowable.few;
        room = subst (λ n. many_need P c.args.count ≤ n) (sym (l.invariant.3.size ∙ c.all_to_ntt_form.ensures.unchanged.size)) c.requires.rowable.room;
        values = λ m h u. ntt_form-values l.scratch (m * scratch_need P) (transcript_part P c.args.count c.args.transcripts.now m) (z_at P) P.n (l.invariant.1 m h u);
      },
      c.loop-row-test.true,
    )

pub loop-row-preserved : goal.loop-row-preserved
loop-row-preserved c =
    let l = c.loop-row in
    let s = c.args in
    let e = c.row_of_all.ensures in
    let made = e.row_made s.transcripts.now l.invariant.1 l.invariant.2 in
    (omega arith, made.0, made.1, unchanged_trans _ _ l.scratch _ l.invariant.3 e.unchanged)

pub returns : goal.returns
returns c =
    let l = c.loop-row in
    let a = c.args in
    let done : l.row ≡ a.params.kappa = omega arith in record {
      all_rows_done_2 = subst (λ ρ. AllRowsDone a.job.now a.count (λ m. get_or a.passes m false) a.transcripts.now l.scratch ρ)
          (done ∙ ap (λ (Q : Parameters). Q.κ) c.requires.rowable.same) l.invariant.2;
      unchanged = unchanged_trans _ _ _ _ c.all_to_ntt_form.ensures.unchanged l.invariant.3;
    }

pub all_to_ntt_form-requires : goal.all_to_ntt_form-requires
all_to_ntt_form-requires c = record { rowable = c.requires.rowable; all_rows_done = c.requires.all_rows_done }

pub shape_of-scratch : goal.shape_of-scratch
shape_of-scratch c = c.loop-row.invariant.3.size ∙ c.all_to_ntt_form.ensures.unchanged.size
