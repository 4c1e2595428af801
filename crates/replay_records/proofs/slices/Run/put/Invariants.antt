-- A slice starts below 10^5, and a word's index is below 2^32.
use Rattle.std.proofs.Common.{◌≤◌}
use Rattle.replay_records.proofs.slices.Run.put.Given as goal

abbrev pub invariant-loop-k : goal.invariant-loop-k
invariant-loop-k l = l.from ≤ 5000000000
