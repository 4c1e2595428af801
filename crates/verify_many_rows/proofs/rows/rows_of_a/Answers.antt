-- `rows_of_a` meets its contract.
use mathlib.Core.Path.{ap}
use native.Mathlib.Omega.{arith}
use Rattle.spec_protocol.specs.Parameters.{Parameters}
use Rattle.verify_many_rows.proofs.Windows.{rows_to, none-stored}
use Rattle.verify_many_rows.proofs.rows.rows_of_a.Goals as goal

pub some_rows-requires : goal.some_rows-requires
some_rows-requires c =
    record { rowable = (c.requires.rowable, omega arith, omega arith); all_rows_done = c.requires.all_rows_done; stored_digits = none-stored _ _ _ _ _ }

pub returns-else-shared : goal.returns-else-shared
returns-else-shared c =
    let e = c.some_rows.ensures in
    record { all_rows_done_2 = rows_to _ _ _ _ _ _ _ (ap (λ (Q : Parameters). Q.κ) c.requires.rowable.same) e.all_rows_done_2; unchanged = e.unchanged }

pub rows_of_a-requires : goal.rows_of_a-requires
rows_of_a-requires c = c.requires

pub shape_of-scratch-then-shared : goal.shape_of-scratch-then-shared
shape_of-scratch-then-shared c = c.rows_of_a.ensures.unchanged.size

pub returns-then-shared : goal.returns-then-shared
returns-then-shared c = c.rows_of_a.ensures

pub shape_of-scratch-else-shared : goal.shape_of-scratch-else-shared
shape_of-scratch-else-shared c = c.some_rows.ensures.unchanged.size
