-- `plain_rows` meets its contract.
use mathlib.Core.Path.{◌≡◌, sym, ap, subst, ◌∙◌}
use mathlib.Core.Bool.{false}
use Prim.Native.Nat.{◌≤◌}
use native.Mathlib.Omega.{arith}
use borrow.Author.Tests.{leb-true}
use lib.ListN.{get_or}
use Rattle.spec_protocol.specs.Parameters.{Parameters, parameters}
use Rattle.spec_protocol.specs.Many.{row_count}
use Rattle.relation_env_params.specs.Parameters.{parameters_of}
use Rattle.core_workspace.proofs.Unchanged.{unchanged_trans}
use Rattle.verify_many_windows.specs.Digits.{Fitting}
use Rattle.verify_many_windows.proofs.WindowLaws.{rowable_sized, few-rows}
use Rattle.verify_many_rows.specs.Rows.{Rowable}
use Rattle.verify_many_rows.proofs.Windows.{rows_to, none-stored}
use Rattle.verify_many_rows.proofs.rows.plain_rows.Goals.{Start, Then-fits}
use Rattle.verify_many_rows.proofs.rows.plain_rows.Goals as goal

-- there are few rows
few : (s : Start) → row_count (parameters_of s.args.params) ≤ 64
few s = few-rows _ _ _ _ _ _ s.requires.rowable

-- the first row after those of A, by the parameters that the code holds
first_is : (s : Start) → (parameters s.args.job.now).κ ≡ s.args.params.kappa
first_is s = ap (λ (Q : Parameters). Q.κ) (sym s.requires.rowable.same)

-- the digits have room where `fits` says so
fitting : (c : Then-fits) → Fitting (parameters_of c.args.params)
fitting c = leb-true _ _ (sym c.fits.ensures ∙ c.if-fits.true)

pub digits_of_all-requires : goal.digits_of_all-requires
digits_of_all-requires c =
    record { rowable = (c.requires.rowable, fitting (goal.at.digits_of_all-requires c).Then-fits); all_rows_done = c.requires.all_rows_done }

pub some_rows-requires : goal.some_rows-requires
some_rows-requires c =
    let s = (goal.at.some_rows-requires c).Start in
    let t = (goal.at.some_rows-requires c).Then-fits in
    let d = c.digits_of_all.ensures in record {
      rowable = (
        subst (λ n. Rowable c.args.job.now c.args.transcripts.now c.args.count (λ m. get_or c.args.passes m false) n c.args.params) (sym d.unchanged.size) c.requires.rowable,
        omega arith,
        omega arith,
      );
      all_rows_done = rows_to _ _ _ _ _ _ _ (first_is s) d.all_rows_done_2;
      stored_digits = record { fitting = λ e. subst Fitting c.requires.rowable.same (fitting t); all = λ e. d.all_digits };
    }

pub some_rows-requires-else-fits : goal.some_rows-requires-else-fits
some_rows-requires-else-fits c =
    let s = (goal.at.some_rows-requires-else-fits c).Start in
    record { rowable = (c.requires.rowable, omega arith, omega arith); all_rows_done = rows_to _ _ _ _ _ _ _ (first_is s) c.requires.all_rows_done; stored_digits = none-stored _ _ _ _ _ }

pub returns-then-fits : goal.returns-then-fits
returns-then-fits c =
    let e = c.some_rows.ensures in
    let d = c.digits_of_all.ensures in
    record { all_rows_done_2 = rows_to _ _ _ _ _ _ _ (ap row_count c.requires.rowable.same) e.all_rows_done_2; unchanged = unchanged_trans _ _ _ _ d.unchanged e.unchanged }

pub returns-else-fits : goal.returns-else-fits
returns-else-fits c =
    let e = c.some_rows-else-fits.ensures in
    record { all_rows_done_2 = rows_to _ _ _ _ _ _ _ (ap row_count c.requires.rowable.same) e.all_rows_done_2; unchanged = e.unchanged }

pub overflow_add-rows : goal.overflow_add-rows
overflow_add-rows c = omega (arith, few (goal.at.overflow_add-rows c).Start)

pub overflow_add-rows-2 : goal.overflow_add-rows-2
overflow_add-rows-2 c = omega (arith, few (goal.at.overflow_add-rows-2 c).Start)

pub overflow_add-rows-3 : goal.overflow_add-rows-3
overflow_add-rows-3 c = omega (arith, few (goal.at.overflow_add-rows-3 c).Start)

pub fits-requires : goal.fits-requires
fits-requires c = rowable_sized _ _ _ _ _ _ c.requires.rowable

pub shape_of-scratch-then-fits : goal.shape_of-scratch-then-fits
shape_of-scratch-then-fits c = c.some_rows.ensures.unchanged.size ∙ c.digits_of_all.ensures.unchanged.size

pub shape_of-scratch-else-fits : goal.shape_of-scratch-else-fits
shape_of-scratch-else-fits c = c.some_rows-else-fits.ensures.unchanged.size
