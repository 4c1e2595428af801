-- `row_of_all` meets its contract. The invariant: the row's product is stored for the transcripts before m that pass, and for no other.
use mathlib.Core.Path.{◌≡◌}
use mathlib.Core.Bool.{false}
use Prim.Native.Nat.{◌*◌, ◌≤◌}
use lib.ListN.{get_or}
use Rattle.spec_protocol.specs.Parameters.{parameters}
use Rattle.spec_protocol.specs.Unchanged.{Unchanged}
use Rattle.spec_protocol.specs.Many.{many_need}
use Rattle.verify_many_windows.specs.Digits.{StoredDigits}
use Rattle.verify_many_windows.proofs.Progress.{Progress}
use Rattle.verify_many_rows.proofs.rows.row_of_all.Given as goal

abbrev pub invariant-loop-m : goal.invariant-loop-m
invariant-loop-m l =
    let m = l.m in (m ≤ l.count)
    × (l.start ≡ m * l.need)
    × Progress l.job l.transcripts l.count (λ m. get_or l.passes m false) l.row l.scratch m
    × Unchanged (many_need (parameters l.job) l.count) l.initial.scratch l.scratch
    × StoredDigits l.job l.count (λ m. get_or l.passes m false) l.transcripts l.scratch l.stored
