-- `row_of_all` meets its contract. The invariant: the row is made for the transcripts before m that pass.
use mathlib.Core.Path.{◌≡◌}
use mathlib.Core.Bool.{false}
use Prim.Native.Nat.{◌*◌, ◌≤◌}
use lib.ListN.{get_or}
use Rattle.verify_many_rows.proofs.ARowLaws.{Making}
use Rattle.verify_many_rows.proofs.a_rows.row_of_all.Given as goal

abbrev pub invariant-loop-m : goal.invariant-loop-m
invariant-loop-m l =
    let m = l.m in (m ≤ l.count) × (l.start ≡ m * l.need) × Making l.job l.count (λ m. get_or l.passes m false) l.row l.initial.scratch l.scratch m
