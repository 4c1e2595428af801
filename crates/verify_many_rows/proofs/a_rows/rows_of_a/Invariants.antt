-- `rows_of_a` meets its contract. The invariant: the first rows are done for every transcript that passes, and z is in NTT form.
use mathlib.Core.Bool.{false}
use Prim.Native.Nat.{◌≤◌}
use lib.ListN.{get_or}
use Rattle.spec_protocol.specs.Parameters.{parameters}
use Rattle.spec_protocol.specs.Unchanged.{Unchanged}
use Rattle.spec_protocol.specs.Many.{many_need, AllRowsDone}
use Rattle.verify_many_rows.specs.NttForm.{AllZ}
use Rattle.verify_many_rows.proofs.a_rows.rows_of_a.Given as goal

abbrev pub invariant-loop-row : goal.invariant-loop-row
invariant-loop-row l =
    (l.row ≤ l.params.kappa)
    × AllZ l.job l.count (λ m. get_or l.passes m false) l.transcripts l.scratch
    × AllRowsDone l.job l.count (λ m. get_or l.passes m false) l.transcripts l.scratch l.row
    × Unchanged (many_need (parameters l.job) l.count) l.initial.scratch l.scratch
