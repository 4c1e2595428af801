-- `rows_of_digits` meets its contract. The invariant: the rows so far are done for every transcript that passes, and the digits are in NTT form.
use mathlib.Core.Bool.{false}
use Prim.Native.Nat.{◌≤◌}
use lib.ListN.{get_or}
use Rattle.spec_protocol.specs.Parameters.{parameters}
use Rattle.spec_protocol.specs.Unchanged.{Unchanged}
use Rattle.spec_protocol.specs.Many.{many_need, AllRowsDone}
use Rattle.verify_many_digits.specs.NttDigits.{AllNttDigits}
use Rattle.verify_many_digits.proofs.rows.rows_of_digits.Given as goal

abbrev pub invariant-loop-row : goal.invariant-loop-row
invariant-loop-row l =
    (l.params.kappa ≤ l.row)
    × (l.row ≤ l.last)
    × AllNttDigits l.job l.count (λ m. get_or l.passes m false) l.transcripts l.scratch
    × AllRowsDone l.job l.count (λ m. get_or l.passes m false) l.transcripts l.scratch l.row
    × Unchanged (many_need (parameters l.job) l.count) l.initial.scratch l.scratch
