-- `other_rows` meets its contract.
use mathlib.Core.Path.{sym, ◌∙◌}
use Rattle.relation_env_params.specs.Parameters.{parameters_of}
use Rattle.verify_many_windows.proofs.WindowLaws.{rowable_sized}
use Rattle.verify_many_digits.proofs.RowLaws.{roomy}
use Rattle.verify_many_rows.proofs.rows.other_rows.Goals as goal

pub rows_of_digits-requires : goal.rows_of_digits-requires
rows_of_digits-requires c =
    record { rowable = (c.requires.rowable, roomy (parameters_of c.args.params) c.args.count (sym c.shared.ensures ∙ c.if-shared.true)); all_rows_done = c.requires.all_rows_done }

pub shared-requires : goal.shared-requires
shared-requires c = rowable_sized _ _ _ _ _ _ c.requires.rowable

pub plain_rows-requires : goal.plain_rows-requires
plain_rows-requires c = c.requires

pub shape_of-scratch-then-shared : goal.shape_of-scratch-then-shared
shape_of-scratch-then-shared c = c.rows_of_digits.ensures.unchanged.size

pub returns-then-shared : goal.returns-then-shared
returns-then-shared c = c.rows_of_digits.ensures

pub shape_of-scratch-else-shared : goal.shape_of-scratch-else-shared
shape_of-scratch-else-shared c = c.plain_rows.ensures.unchanged.size

pub returns-else-shared : goal.returns-else-shared
returns-else-shared c = c.plain_rows.ensures
