-- `some_rows` meets its contract. The invariant: the products of the rows so far are done for every transcript that passes, and those of later rows are zero.
use mathlib.Core.Bool.{false}
use Prim.Native.Nat.{◌≤◌}
use lib.ListN.{get_or}
use Rattle.spec_protocol.specs.Parameters.{parameters}
use Rattle.spec_protocol.specs.Unchanged.{Unchanged}
use Rattle.spec_protocol.specs.Many.{many_need, AllRowsDone}
use Rattle.verify_many_windows.specs.Digits.{StoredDigits}
use Rattle.verify_many_rows.proofs.rows.some_rows.Given as goal

abbrev pub invariant-loop-row : goal.invariant-loop-row
invariant-loop-row l =
    (l.row ≤ l.last)
    × AllRowsDone l.job l.count (λ m. get_or l.passes m false) l.transcripts l.scratch l.row
    × Unchanged (many_need (parameters l.job) l.count) l.initial.scratch l.scratch
    × StoredDigits l.job l.count (λ m. get_or l.passes m false) l.transcripts l.scratch l.stored
