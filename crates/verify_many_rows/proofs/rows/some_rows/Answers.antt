use mathlib.Core.Path.{sym, subst}
use mathlib.Core.Bool.{false}
use native.Mathlib.Omega.{arith}
use lib.ListN.{get_or}
use Rattle.core_workspace.proofs.Unchanged.{unchanged_refl, unchanged_trans}
use Rattle.verify_many_rows.specs.Rows.{Rowable}
use Rattle.verify_many_rows.proofs.Windows.{rows_to}
use Rattle.verify_many_rows.proofs.rows.some_rows.Goals as goal

pub loop-row-init : goal.loop-row-init
loop-row-init c =
    let s = c.requires in
    (s.rowable.1, s.all_rows_done, unchanged_refl _ _, s.stored_digits)

pub row_of_all-requires : goal.row_of_all-requires
row_of_all-requires c =
    let l = c.loop-row in record {
      rowable = (
        subst (λ n. Rowable c.args.job.now c.args.transcripts.now c.args.count (λ m. get_or c.args.passes m false) n c.args.params) (sym l.invariant.2.size)
            c.requires.rowable.0,
        omega (arith, c.requires.rowable.2),
      );
      all_rows_done = l.invariant.1;
      stored_digits = l.invariant.3;
    }

pub loop-row-preserved : goal.loop-row-preserved
loop-row-preserved c =
    let l = c.loop-row in
    let e = c.row_of_all.ensures in
    (omega arith, e.all_rows_done_2, unchanged_trans _ _ l.scratch _ l.invariant.2 e.unchanged, e.stored_digits_2)

pub returns : goal.returns
returns c =
    let l = c.loop-row in
    record { all_rows_done_2 = rows_to _ _ _ _ l.scratch l.row _ (omega arith) l.invariant.1; unchanged = l.invariant.2 }

pub shape_of-scratch : goal.shape_of-scratch
shape_of-scratch c = c.loop-row.invariant.2.size
