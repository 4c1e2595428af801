-- `row_products` meets its contract.
use mathlib.Core.Path.{sym, subst, ◌∙◌}
use mathlib.Core.Bool.{false}
use Prim.Native.Nat.{◌≤◌}
use lib.ListN.{length, get_or}
use Rattle.spec_protocol.specs.Parameters.{parameters}
use Rattle.spec_protocol.specs.Unchanged.{Unchanged}
use Rattle.spec_protocol.specs.Many.{many_need, AllRowsDone}
use Rattle.core_workspace.proofs.Unchanged.{unchanged_trans}
use Rattle.verify_many_windows.proofs.WindowLaws.{rowable_sized}
use Rattle.verify_many_rows.specs.Rows.{Rowable, ProductsZero}
use Rattle.verify_many_rows.proofs.Windows.{rows_cleared}
use Rattle.verify_many_rows.proofs.rows.row_products.Goals.{After-clear_products}
use Rattle.verify_many_rows.proofs.rows.row_products.Goals as goal

-- what the work stands on after the products are cleared
rowable : (c : After-clear_products)
    → let s = c.args in
    Rowable s.job.now s.transcripts.now s.count (λ m. get_or s.passes m false) (length c.clear_products.new.scratch) s.params
rowable c =
    subst (λ n. Rowable c.args.job.now c.args.transcripts.now c.args.count (λ m. get_or c.args.passes m false) n c.args.params) (sym c.clear_products.ensures.unchanged.size) c.requires

-- no row is done
none_done : (c : After-clear_products)
    → let s = c.args in
    AllRowsDone s.job.now s.count (λ m. get_or s.passes m false) s.transcripts.now c.clear_products.new.scratch 0
none_done c =
    rows_cleared c.args.job.now c.args.transcripts.now c.args.count _ _ (rowable c).room
    (subst (λ P. ProductsZero P c.args.count c.clear_products.new.scratch) c.requires.same c.clear_products.ensures.products_zero)

-- the words beyond the windows are as they were
unchanged : (c : After-clear_products)
    → let s = c.args in
    Unchanged (many_need (parameters s.job.now) s.count) s.scratch.now c.clear_products.new.scratch
unchanged c =
    subst (λ P. Unchanged (many_need P c.args.count) c.args.scratch.now c.clear_products.new.scratch) c.requires.same c.clear_products.ensures.unchanged

pub rows_of_a-requires : goal.rows_of_a-requires
rows_of_a-requires c =
    let k = (goal.at.rows_of_a-requires c).After-clear_products in
    record { rowable = rowable k; all_rows_done = none_done k }

pub other_rows-requires : goal.other_rows-requires
other_rows-requires c =
    let k = (goal.at.other_rows-requires c).After-clear_products in
    let s = c.args in
    let e = c.rows_of_a.ensures in
    record { rowable = subst (λ n. Rowable s.job.now s.transcripts.now s.count (λ m. get_or s.passes m false) n s.params) (sym e.unchanged.size) (rowable k); all_rows_done = e.all_rows_done_2 }

pub returns : goal.returns
returns c =
    let k = (goal.at.returns c).After-clear_products in
    let a = c.rows_of_a.ensures in
    let e = c.other_rows.ensures in
    record { all_rows_done = e.all_rows_done_2; unchanged = unchanged_trans _ _ _ _ (unchanged k) (unchanged_trans _ _ _ _ a.unchanged e.unchanged) }

pub clear_products-requires : goal.clear_products-requires
clear_products-requires c = (rowable_sized _ _ _ _ _ _ c.requires, subst (λ P. many_need P c.args.count ≤ length c.args.scratch.now) (sym c.requires.same) c.requires.room)

pub shape_of-scratch : goal.shape_of-scratch
shape_of-scratch c = c.other_rows.ensures.unchanged.size ∙ c.rows_of_a.ensures.unchanged.size
    ∙ (unchanged (goal.at.shape_of-scratch c).After-clear_products).size
