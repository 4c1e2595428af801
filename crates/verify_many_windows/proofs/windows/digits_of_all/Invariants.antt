-- `digits_of_all` meets its contract. The invariant: the digits of the transcripts before m that pass are stored.
use mathlib.Core.Path.{◌≡◌}
use mathlib.Core.Bool.{false}
use Prim.Native.Nat.{◌-◌, ◌*◌, ◌≤◌}
use lib.ListN.{get_or}
use Rattle.spec_protocol.specs.Parameters.{parameters}
use Rattle.spec_protocol.specs.Unchanged.{Unchanged}
use Rattle.spec_protocol.specs.Many.{many_need}
use Rattle.verify_many_windows.proofs.WindowDigits.{Begun}
use Rattle.verify_many_windows.proofs.windows.digits_of_all.Given as goal

abbrev pub invariant-loop-m : goal.invariant-loop-m
invariant-loop-m l =
    let m = l.m in (m ≤ l.count)
    × (l.start ≡ m * l.need)
    × Begun l.job l.transcripts l.count (λ m. get_or l.passes m false) (parameters l.job).κ l.scratch m
    × Unchanged (many_need (parameters l.job) l.count) l.initial.scratch l.scratch
